use Rattle.std.proofs.Common.{◌≡◌, ◌-◌, ◌≤◌, ℕ, List, []}
use Rattle.bus_line.specs.declared.line.Line.TheVariants.{Second}
use Rattle.bus_tap.specs.Arrival.{arrivals_from, own}
use Rattle.bus_tap.proofs.rest.past_second.Given as goal

-- none of the arrivals behind is one of the second line
abbrev pub invariant-loop-past : goal.invariant-loop-past
invariant-loop-past l = record {
  within : (l.fn.from ≤ l.past) × (l.past ≤ l.fn.end);
  none : (bits : List ℕ) → own Second (arrivals_from bits l.fn.lines l.past (l.fn.end - l.past)) ≡ [];
}

abbrev pub decreases-loop-past : goal.decreases-loop-past
decreases-loop-past l = l.past
