use Rattle.std.proofs.Common.{◌+◌, ◌-◌, ◌≤◌, ℕ, length}
use Rattle.bus_tap.specs.Arrival.{arrivals_from}
use Rattle.bus_clocks.specs.Clocks.{two_clocks}
use Rattle.bus_clocks.specs.Internal.Parts.{upto}
use Rattle.bus_watch.specs.Watch.{AdvancesWatchShown}
use Rattle.bus_clocks.proofs.analyser.TwoClockAnalyser.scan_block.Given as goal

-- the arrivals up to the last bit of the second line that is taken were taken, and what is seen at them was shown
abbrev pub invariant-loop-taken : goal.invariant-loop-taken
invariant-loop-taken g l = record {
  within : l.taken ≤ length l.parted.second;
  told : AdvancesWatchShown (two_clocks g.C.Check.check) l.fn.self
      (upto l.taken (arrivals_from l.fn.bits l.fn.lines l.fn.from l.fn.count)) l.self
      (λ ss. g.L.ReportObserver.observes l.fn.self.conversation.dictionary l.fn.observer l.fn.out ss l.observer l.out);
  left : (more : ℕ) → g.L.ReportObserver.has_room l.fn.observer
      (length (upto l.taken (arrivals_from l.fn.bits l.fn.lines l.fn.from l.fn.count)) + more) →
      g.L.ReportObserver.has_room l.observer more;
}

abbrev pub decreases-loop-taken : goal.decreases-loop-taken
decreases-loop-taken g l = length l.parted.second - l.taken
