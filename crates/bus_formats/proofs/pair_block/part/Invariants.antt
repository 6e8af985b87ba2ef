use Rattle.std.proofs.Common.{length, ◌-◌, ◌≡◌, ◌*◌, ◌%◌, ◌≤◌, zip}
use Rattle.bus_bits.specs.Bits.{bits_from}
use Rattle.bus_formats.specs.Packed.{in_pairs}
use Rattle.bus_formats.proofs.pair_block.part.Given as goal

-- the octets so far were parted
abbrev pub invariant-loop-at : goal.invariant-loop-at
invariant-loop-at l = record {
  within : l.at ≤ length l.octets;
  sixteens : l.at % 16 ≡ 0;
  pairs : in_pairs (bits_from l.octets 0 (8 * l.at))
      ≡ zip (bits_from l.first 0 (4 * l.at)) (bits_from l.second 0 (4 * l.at));
  first : length l.first ≡ length l.fn.first;
  second : length l.second ≡ length l.fn.second;
}

abbrev pub decreases-loop-at : goal.decreases-loop-at
decreases-loop-at l = length l.octets - l.at
