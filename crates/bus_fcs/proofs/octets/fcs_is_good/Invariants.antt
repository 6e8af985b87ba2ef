use Rattle.std.proofs.Common.{take}
use Rattle.bus_fcs.proofs.octets.fcs_is_good.Given as goal

-- the octets so far are folded
abbrev pub invariant-loop-octet : goal.invariant-loop-octet
invariant-loop-octet g l = g.C.Check.check.folded l.check (take l.octet-index l.octets)
