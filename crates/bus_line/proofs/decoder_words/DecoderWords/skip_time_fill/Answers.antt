use Rattle.std.proofs.Common.{◌-◌, ◌/◌, List, Bool, None, sym, subst, arith}
use Rattle.bus_line.specs.After.{Decides}
use Rattle.bus_line.specs.Words.{state}
use Rattle.bus_line.proofs.TimeFillLemmas.{skipped-flags, skipped-ones}
use Rattle.bus_line.proofs.DecidesLemmas.{decides-from}
use Rattle.bus_line.proofs.decoder_words.DecoderWords.skip_time_fill.Goals as goal

pub returns-then-self-eq-NEVER-clause-decides : goal.returns-then-self-eq-NEVER-clause-decides
returns-then-self-eq-NEVER-clause-decides g c = λ check held.
    let view = g.C.Check.check in
    let old = c.args.self.now in
    let new = c.skip_ones.new.self in
    let count = c.skip_ones.result - c.args.from in
    subst (λ (z : List Bool). Decides view (state old check held) z None (state new check held))
    (sym c.skip_ones.ensures.bits)
    (skipped-ones view check held old new count c.skip_ones.ensures.passes c.if-self-eq-NEVER.true
    (omega (arith, c.requires.bits.room, c.skip_ones.ensures.within)))

pub returns-then-self-clause-decides : goal.returns-then-self-clause-decides
returns-then-self-clause-decides g c = λ check held.
    let view = g.C.Check.check in
    let old = c.args.self.now in
    let new = c.skip_flags.new.self in
    let count = (c.skip_flags.result - c.args.from) / 8 in
    subst (λ (z : List Bool). Decides view (state old check held) z None (state new check held))
    (sym c.skip_flags.ensures.flags.are)
    (skipped-flags view check held old new count c.skip_flags.ensures.passes c.requires.within c.if-self.true
    c.skip_flags.ensures.sound.place_fits)

pub returns-clause-decides : goal.returns-clause-decides
returns-clause-decides g c = λ check held.
    decides-from c.args.octets.now c.args.from (c.args.from - c.args.from) (omega arith)
