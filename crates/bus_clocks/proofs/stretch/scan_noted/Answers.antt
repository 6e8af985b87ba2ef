use Rattle.std.proofs.Common.{◌+◌, ◌-◌, ◌++◌, length, drop, ap, ◌∙◌, sym, arith}
use Rattle.std.proofs.lemmas.List.{length-drop, length-take}
use Rattle.bus_bits.specs.Bits.{bits_from}
use Rattle.bus_bits.proofs.BitLemmas.{length-from}
use Rattle.bus_line.specs.After.{due_of}
use Rattle.bus_clocks.proofs.OpeningLemmas.{opening-scanned}
use Rattle.bus_clocks.proofs.stretch.scan_noted.Goals as goal

pub note_bits-requires-clause-opening : goal.note_bits-requires-clause-opening
note_bits-requires-clause-opening g c = λ k is.
    let m = c.args.from in
    let n = c.in-Ok.scanned.count in
    let xs = c.args.parted.now.before in
    let bits = bits_from c.octets.result.now m n in
    let count = length-from c.octets.result.now m n in
    let within = opening-scanned {old = c.args.second.now} bits c.reports_are.ensures.due
    (omega (arith, count, c.in-Ok.ensures.count.0)) c.in-Ok.ensures.advances
    (λ b after. c.in-Ok.ensures.answer b after ∙ ap (λ j. due_of c.args.second.now (b ++ bits) (length b + j - 1))
    (sym count)) c.opening-opening.ensures c.requires.reached k is in
    omega (
      arith,
      within,
      count,
      c.place-number.ensures.value,
      length-take (m + n - m) (drop m xs),
      length-drop m xs,
      c.in-Ok.ensures.count.1,
      c.count.ensures.value,
      c.count.ensures.few,
      c.well_formed,
    )
