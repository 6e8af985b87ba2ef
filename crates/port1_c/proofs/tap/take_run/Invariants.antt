use Rattle.std.proofs.Common.{◌≡◌, ◌+◌, ◌-◌, ◌≤◌, length, replicate}
use Rattle.bus_bits.specs.Limits.{most_places}
use Rattle.port1_c.specs.Tap.{TapsMore}
use Rattle.port1_c.proofs.tap.take_run.Given as goal

-- all but the samples that are left were taken
abbrev pub invariant-loop-left : goal.invariant-loop-left
invariant-loop-left l = record {
  left : l.left ≤ l.count;
  fits : l.tap.samples + l.left ≤ most_places;
  samples : l.tap.samples + l.left ≡ l.initial.tap.samples + l.count;
  long : length l.arrivals ≡ length l.initial.arrivals;
  arrived : l.arrived ≤ length l.arrivals;
  tapped : TapsMore l.initial.tap l.initial.stops l.initial.arrivals l.initial.arrived
      (replicate (l.count - l.left) l.levels) l.tap l.stops l.arrivals l.arrived;
}

abbrev pub decreases-loop-left : goal.decreases-loop-left
decreases-loop-left l = l.left
