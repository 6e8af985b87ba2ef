use Rattle.std.proofs.Common.{◌+◌, ◌-◌, ◌≤◌, length, map}
use Rattle.bus_bits.specs.Limits.{most_places}
use Rattle.bus_tap.specs.Tapped.{channels}
use Rattle.port1_c.specs.Tap.{HasTapped, samples_from}
use Rattle.port1_c.proofs.tap.take_samples.Given as goal

-- the samples before this one were taken
abbrev pub invariant-loop-at : goal.invariant-loop-at
invariant-loop-at l = record {
  order : l.initial.at ≤ l.at;
  within : l.at ≤ l.end;
  fits : l.tap.samples + (l.end - l.at) ≤ most_places;
  arrived : l.arrived ≤ length l.arrivals;
  tapped : HasTapped l.initial.tap l.initial.stops l.initial.arrivals
      (map (channels l.wires) (samples_from l.width l.octets l.initial.at (l.at - l.initial.at))) l.tap l.stops
      l.arrivals l.arrived;
}

abbrev pub decreases-loop-at : goal.decreases-loop-at
decreases-loop-at l = l.end - l.at
