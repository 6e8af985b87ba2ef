use Rattle.std.proofs.Common.{◌≡◌, ◌-◌, ◌≤◌, length}
use Rattle.port1_c.specs.Clocks.{AreSound, DecideNone, TakesArrivals}
use Rattle.port1_c.proofs.clocking.port1_clocks_feed.Given as goal

-- the arrivals before this one were taken, and decided nothing
abbrev pub invariant-loop-at : goal.invariant-loop-at
invariant-loop-at l = record {
  order : l.initial.at ≤ l.at;
  within : l.initial.at ≤ length l.arrivals → l.at ≤ length l.arrivals;
  kind : l.report.kind ≡ 0;
  cause : l.report.cause ≡ 0;
  sound : AreSound l.clocks;
  longest : l.clocks.first.words.longest ≡ l.initial.clocks.first.words.longest;
  origin : l.clocks.first.words.origin ≡ l.initial.clocks.first.words.origin;
  after : TakesArrivals l.initial.clocks l.arrivals l.initial.at l.at l.clocks;
  none : DecideNone l.initial.clocks l.arrivals l.initial.at l.at;
}

abbrev pub decreases-loop-at : goal.decreases-loop-at
decreases-loop-at l = length l.arrivals - l.at
