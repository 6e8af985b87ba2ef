use Rattle.std.proofs.Common.{◌-◌, ◌≤◌}
use Rattle.bus_tap.specs.Arrival.{arrivals_from}
use Rattle.bus_clocks.specs.Clocks.{two_clocks}
use Rattle.bus_watch.specs.Watch.{AdvancesWatchShown}
use Rattle.bus_clocks.proofs.analyser.TwoClockAnalyser.scan.Given as goal

-- the arrivals so far were taken, and what is seen at them was shown
abbrev pub invariant-loop-taken : goal.invariant-loop-taken
invariant-loop-taken g l = record {
  within : l.taken ≤ l.count;
  told : AdvancesWatchShown (two_clocks g.C.Check.check) l.fn.self
      (arrivals_from l.fn.bits l.fn.lines l.fn.from l.taken) l.self
      (λ ss. g.L.ReportObserver.observes l.fn.self.conversation.dictionary l.fn.observer l.fn.out ss l.observer l.out);
  room : g.L.ReportObserver.has_room l.observer (l.count - l.taken);
}

abbrev pub decreases-loop-taken : goal.decreases-loop-taken
decreases-loop-taken g l = l.count - l.taken
