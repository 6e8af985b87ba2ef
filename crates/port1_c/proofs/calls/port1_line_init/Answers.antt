use Rattle.std.proofs.Common.{[], sym, subst}
use Rattle.bus_fcs.specs.Folded.{by_tables}
use Rattle.bus_line.specs.Words.{fresh_words}
use Rattle.bus_line.specs.declared.decoder_words.DecoderWords.{DecoderWords}
use Rattle.bus_line.proofs.StepLemmas.{fresh-tracks}
use Rattle.port1_c.specs.Line.{LineAfter}
use Rattle.port1_c.specs.declared.line.Port1Line.{Port1Line}
use Rattle.port1_c.proofs.calls.port1_line_init.Goals as goal

pub returns-in-Ok-clause-stands : goal.returns-in-Ok-clause-stands
returns-in-Ok-clause-stands c = λ _.
    let origin = c.args.origin in
    let made : DecoderWords → Port1Line = λ w. record { words = w; frame = c.new-line.result } in
    subst (λ (w : DecoderWords). LineAfter (made w) []) (sym c.in-Ok.ensures.value)
    (subst (λ frame. LineAfter (record { words = fresh_words c.args.longest origin; frame = frame }) [])
    (sym c.new-line.ensures)
    (fresh-tracks by_tables c.args.longest origin (record { state = 0 }) []))
