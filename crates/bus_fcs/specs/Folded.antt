-- What the check by tables has folded.
use Rattle.bus_fcs.specs.Check.{CheckView}
use Rattle.bus_fcs.specs.declared.octet_check.OctetCheck.{OctetCheck}
use Rattle.bus_fcs.specs.Internal.Register.{IsStateAfter}

-- the check is that of these octets, the first one first, each of which costs one unit
abbrev pub by_tables : CheckView OctetCheck
by_tables = record { folded = λ check octets. IsStateAfter check.state octets; cost = 1 }
