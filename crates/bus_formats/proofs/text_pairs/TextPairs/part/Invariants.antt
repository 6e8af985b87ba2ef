use Rattle.std.proofs.Common.{length, ◌-◌, ◌≡◌, ◌*◌, ◌≤◌, ◌++◌, ℕ, List, None, take, zip}
use Rattle.bus_bits.specs.Bits.{bits_from}
use Rattle.bus_formats.specs.Capture.{text_pairs, text_pairs_fault}
use Rattle.bus_formats.proofs.text_pairs.TextPairs.part.Given as goal

-- the pairs of the octets so far were parted
abbrev pub invariant-loop-filled : goal.invariant-loop-filled
invariant-loop-filled l = record {
  enough : l.taken ≤ length l.text;
  within : l.filled ≤ length l.first;
  given : (xs : List ℕ) → text_pairs_fault xs ≡ None
      → (text_pairs_fault (xs ++ take l.taken l.text) ≡ None)
      × (text_pairs (xs ++ take l.taken l.text) ≡ text_pairs xs
      ++ zip (bits_from l.first 0 (8 * l.filled)) (bits_from l.second 0 (8 * l.filled)));
  first : length l.first ≡ length l.fn.first;
  second : length l.second ≡ length l.fn.second;
}

abbrev pub decreases-loop-filled : goal.decreases-loop-filled
decreases-loop-filled l = length l.first - l.filled
