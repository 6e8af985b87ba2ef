use Rattle.std.proofs.Common.{◌*◌}
use Rattle.port1_c.specs.Bits.{CopiesBits}
use Rattle.port1_c.proofs.put.put_octets.Given as goal

abbrev pub invariant-loop-i : goal.invariant-loop-i
invariant-loop-i l = CopiesBits l.fn.octets l.at l.source l.first (8 * l.i) l.octets
