use Rattle.bus_bits.proofs.OctetLemmas.{bits_of_eight}
use Rattle.bus_bits.proofs.octet.octet_bits.Goals as goal

pub returns : goal.returns
returns c = bits_of_eight c.args.o
