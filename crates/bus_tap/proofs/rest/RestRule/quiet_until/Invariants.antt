use Rattle.std.proofs.Common.{◌-◌, ◌≤◌, ℕ, List}
use Rattle.bus_tap.specs.Arrival.{Arrival, arrivals_from}
use Rattle.bus_tap.specs.Internal.Quiet.{Passes}
use Rattle.bus_tap.specs.Rested.{IsRestAfter}
use Rattle.bus_tap.proofs.rest.RestRule.quiet_until.Given as goal

-- the arrivals so far bring no rest
abbrev pub invariant-loop-quiet : goal.invariant-loop-quiet
invariant-loop-quiet l = record {
  within : (l.fn.from ≤ l.quiet.at) × (l.quiet.at ≤ l.fn.end);
  passes : (bits : List ℕ) (xs : List Arrival) → IsRestAfter l.fn.self xs →
      Passes l.fn.self.most xs (arrivals_from bits l.fn.lines l.fn.from (l.quiet.at - l.fn.from)) l.quiet.left;
}

abbrev pub decreases-loop-quiet : goal.decreases-loop-quiet
decreases-loop-quiet l = l.fn.end - l.quiet.at
