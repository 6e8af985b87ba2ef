use Rattle.std.proofs.Common.{◌≡◌, ◌-◌, ◌≤◌, length}
use Rattle.bus_bits.specs.Limits.{most_places}
use Rattle.port1_c.specs.Tap.{TapsRuns}
use Rattle.port1_c.proofs.tap.take_runs.Given as goal

-- the runs before this one were taken
abbrev pub invariant-loop-at : goal.invariant-loop-at
invariant-loop-at l = record {
  order : l.initial.at ≤ l.at;
  within : l.initial.at ≤ length l.initial.runs → l.at ≤ length l.initial.runs;
  same : l.runs ≡ l.initial.runs;
  long : length l.arrivals ≡ length l.initial.arrivals;
  fits : l.tap.samples ≤ most_places;
  arrived : l.arrived ≤ length l.arrivals;
  tapped : TapsRuns l.initial.tap l.initial.stops l.initial.arrivals l.wires l.initial.runs l.initial.at l.tap l.stops
      l.arrivals l.arrived l.initial.runs l.at;
}

abbrev pub decreases-loop-at : goal.decreases-loop-at
decreases-loop-at l = length l.runs - l.at
