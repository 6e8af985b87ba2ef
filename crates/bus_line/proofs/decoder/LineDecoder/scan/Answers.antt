use Rattle.std.proofs.Common.{◌≤◌, length, ap, arith}
use Rattle.bus_bits.specs.Bits.{bits_from}
use Rattle.bus_bits.proofs.BitLemmas.{length-from}
use Rattle.bus_line.specs.LineState.{LineState}
use Rattle.bus_line.proofs.DecidesLemmas.{last-due}
use Rattle.bus_line.proofs.decoder.LineDecoder.scan.Goals as goal

pub returns-clause-answer : goal.returns-clause-answer
returns-clause-answer g c = rw (← c.self.view_is) (
    let scanned = c.in_ok-scanned in
    let count = length-from c.args.octets.now c.args.at scanned.scanned.count in
    let some : 1 ≤ length (bits_from c.args.octets.now c.args.at scanned.scanned.count) =
    omega (arith, count, scanned.ensures.count.0) in
    rw count at (last-due some scanned.ensures.advances))

pub returns-clause-fits : goal.returns-clause-fits
returns-clause-fits g c =
    let scanned = c.in_ok-scanned in
    let here = ap (λ (d : LineState _). d.place) c.self.view_is in
    let place = scanned.ensures.advances.decides.leads.place in
    let count = length-from c.args.octets.now c.args.at scanned.scanned.count in
    omega (arith, here, c.scan.ensures.sound.within.place_fits, place, count)
