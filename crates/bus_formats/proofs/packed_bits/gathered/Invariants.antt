use Rattle.std.proofs.Common.{◌≡◌, take}
use Rattle.bus_formats.proofs.packed_bits.gathered.Given as goal

abbrev pub invariant-loop-item : goal.invariant-loop-item
invariant-loop-item g l = l.gathered.items ≡ take l.item-index l.items
