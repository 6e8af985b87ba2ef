use Rattle.std.proofs.Common.{◌≡◌, ℕ, ◌+◌, ◌-◌, ◌%◌, ◌<◌, ◌≤◌, length, Some}
use Rattle.std.specs.Prelude.{slice_get}
use Rattle.bus_clocks.specs.Internal.Stretch.{place_after}
use Rattle.bus_clocks.proofs.stretch.note_bits.Given as goal

-- the places of the bits so far are noted
abbrev pub invariant-loop-at : goal.invariant-loop-at
invariant-loop-at l = record {
  within : l.at ≤ length l.before;
  from : length l.before ≤ l.at + 16;
  reached : (c : ℕ) → length l.before - 16 < l.at → slice_get l.before (l.at - 1) ≡ Some c →
      l.places.reached ≡ place_after l.standing c;
  recent : (i c : ℕ) → i < l.at → slice_get l.before i ≡ Some c → length l.before ≤ i + 16 →
      slice_get l.places.recent ((l.number + i) % 16) ≡ Some (place_after l.standing c);
  others : (k : ℕ) → k < l.number → l.number + length l.before ≤ k + 16 →
      slice_get l.places.recent (k % 16) ≡ slice_get l.fn.places.recent (k % 16);
  opened : (i c : ℕ) → l.fn.opening ≡ Some (l.number + i) → slice_get l.before i ≡ Some c →
      l.places.opened ≡ place_after l.standing c;
  kept : ((k : ℕ) → l.fn.opening ≡ Some k → k < l.number) → l.places.opened ≡ l.fn.places.opened;
}

abbrev pub decreases-loop-at : goal.decreases-loop-at
decreases-loop-at l = length l.before - l.at
