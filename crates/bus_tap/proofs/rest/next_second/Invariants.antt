use Rattle.std.proofs.Common.{◌≡◌, ◌-◌, ◌≤◌, ℕ, List, []}
use Rattle.bus_line.specs.declared.line.Line.TheVariants.{Second}
use Rattle.bus_tap.specs.Arrival.{arrivals_from, own}
use Rattle.bus_tap.proofs.rest.next_second.Given as goal

-- none of the arrivals so far is one of the second line
abbrev pub invariant-loop-at : goal.invariant-loop-at
invariant-loop-at l = record {
  within : (l.fn.from ≤ l.at) × (l.at ≤ l.fn.end);
  none : (bits : List ℕ) → own Second (arrivals_from bits l.fn.lines l.fn.from (l.at - l.fn.from)) ≡ [];
}

abbrev pub decreases-loop-at : goal.decreases-loop-at
decreases-loop-at l = l.fn.end - l.at
