use Rattle.bus_formats.proofs.PairsLemmas.{pairs_of_octet}
use Rattle.bus_formats.proofs.packed_pairs.octet_pairs.Goals as goal

pub returns : goal.returns
returns c = pairs_of_octet c.args.o
