use Rattle.std.proofs.Common.{◌≡◌, ◌+◌, ◌<◌, ℕ, Some, length}
use Rattle.std.specs.Prelude.{slice_get}
use Rattle.bus_clocks.proofs.parted.Parted.take_turns.Given as goal

-- the places of the turns so far
abbrev pub invariant-loop-turn : goal.invariant-loop-turn
invariant-loop-turn l = record {
  first : l.self.first ≡ l.fn.self.first;
  second : l.self.second ≡ l.fn.self.second;
  long : length l.self.before ≡ length l.fn.self.before;
  had : (k : ℕ) → k < l.from → slice_get l.self.before k ≡ slice_get l.fn.self.before k;
  more : (k : ℕ) → k < l.turn → slice_get l.self.before (l.from + k) ≡ Some (l.before + k);
}
