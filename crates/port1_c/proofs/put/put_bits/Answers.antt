use Rattle.std.proofs.Common.{◌+◌, ◌-◌, ◌*◌, ◌/◌, ◌%◌, refl, arith}
use Rattle.bus_bits.proofs.OctetLemmas.{least}
use Rattle.port1_c.proofs.PutLemmas.{copies-puts, copies-then}
use Rattle.port1_c.proofs.put.put_bits.Goals as goal

pub returns : goal.returns
returns c =
    let count = c.args.end - c.args.first in
    let head = c.min-head.result in
    let done = head + 8 * ((count - head) / 8) in
    copies-puts _ _ _ _ _ count
    (copies-then _ _ _ _ _ _ done (count - done) count
    (omega (arith, c.min-head.ensures, least ((8 - c.args.at % 8) % 8) count))
    (copies-then _ _ _ _ _ _ head (8 * ((count - head) / 8)) done refl c.put_some.ensures c.put_octets.ensures)
    c.put_some-2.ensures)
