use Rattle.bus_bits.proofs.OctetLemmas.{number-bits, bits-number}
use Rattle.bus_bits.proofs.laws.octet_is_bits.Goals as goal

pub returns-clause-number : goal.returns-clause-number
returns-clause-number c = number-bits 8

pub returns-clause-bits : goal.returns-clause-bits
returns-clause-bits c = λ b eight. bits-number b 8 eight
