use Rattle.std.proofs.Common.{ℕ, Some, ap, ◌∙◌, arith}
use Rattle.bus_line.specs.Report.{Abort}
use Rattle.bus_line.proofs.WordsLemmas.{aborts}
use Rattle.bus_line.proofs.decoder_words.DecoderWords.aborted.Goals as goal

pub returns : goal.returns
returns c = λ octets mark end e past.
    let w = c.args.self.now in
    let i = c.requires.within in
    let first = c.first_or_never-first.ensures in
    ap (λ (k : ℕ). Some (record { kind = Abort; first = k; past = c.args.past })) first
    ∙ aborts w.origin w.settles_at c.args.past end w.place mark e past c.requires.past i.place_fits i.settles_late
    (omega (arith, first, c.if-first-past.false))
