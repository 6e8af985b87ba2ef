use Rattle.bus_bits.proofs.OctetLemmas.{octets-of-bits, bits-of-octets}
use Rattle.bus_bits.proofs.laws.octets_are_bits.Goals as goal

pub returns-clause-octets : goal.returns-clause-octets
returns-clause-octets c = octets-of-bits

pub returns-clause-bits : goal.returns-clause-bits
returns-clause-bits c = bits-of-octets
