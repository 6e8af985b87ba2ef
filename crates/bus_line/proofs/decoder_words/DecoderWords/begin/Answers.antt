use Rattle.std.proofs.Common.{◌≤◌, length, sym, subst, arith}
use Rattle.bus_line.specs.Internal.Settled.{HoldsOctets}
use Rattle.bus_line.specs.Internal.Tracks.{words_room}
use Rattle.bus_line.proofs.TracksAppendLemmas.{keeps-none, words-short}
use Rattle.bus_line.proofs.decoder_words.DecoderWords.begin.Goals as goal

pub returns-then-self-ge64-clause-keeps : goal.returns-then-self-ge64-clause-keeps
returns-then-self-ge64-clause-keeps g c = λ bits holds.
    let full : 64 ≤ length bits = omega (arith, holds.count, c.if-self-ge64.true) in
    record { held = holds.held full; checked = holds.checked full }

pub returns-clause-keeps : goal.returns-clause-keeps
returns-clause-keeps g c = λ bits holds.
    let limit = words_room c.args.self.now.longest in
    subst (HoldsOctets g.C.Check.check.folded limit _)
    (sym (words-short bits (omega (arith, holds.count, c.if-self-ge64.false))))
    (keeps-none _ limit _ c.clear.ensures c.fresh.ensures)
