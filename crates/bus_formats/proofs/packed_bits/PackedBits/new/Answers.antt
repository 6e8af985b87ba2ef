use Rattle.bus_formats.proofs.PackedLemmas.{packed-new}
use Rattle.bus_formats.proofs.packed_bits.PackedBits.new.Goals as goal

pub returns : goal.returns
returns c = packed-new c.args.head.bits
