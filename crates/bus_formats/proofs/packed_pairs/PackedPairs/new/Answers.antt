use Rattle.bus_formats.proofs.PairsLemmas.{pairs-new}
use Rattle.bus_formats.proofs.packed_pairs.PackedPairs.new.Goals as goal

pub returns : goal.returns
returns c = pairs-new c.args.head.pairs
