use Rattle.std.proofs.Common.{◌-◌, ◌*◌, ◌≤◌, zip}
use Rattle.bus_bits.specs.Bits.{bits_from}
use Rattle.bus_watch.specs.Pairs.{two_lines}
use Rattle.bus_watch.specs.Watch.{AdvancesWatchShown}
use Rattle.bus_watch.proofs.pair.analyser.PairAnalyser.scan.Given as goal

-- the pairs so far were taken, and what is seen at them was told
abbrev pub invariant-loop-at : goal.invariant-loop-at
invariant-loop-at g l = record {
  within : l.at ≤ l.end;
  told : AdvancesWatchShown (two_lines g.C.Check.check) l.fn.self
      (zip (bits_from l.fn.first 0 l.at) (bits_from l.fn.second 0 l.at)) l.self
      (λ ss. g.L.ReportObserver.observes l.fn.self.conversation.dictionary l.fn.observer l.fn.out ss l.observer l.out);
  room : g.L.ReportObserver.has_room l.observer (2 * (l.end - l.at));
}

abbrev pub decreases-loop-at : goal.decreases-loop-at
decreases-loop-at g l = l.end - l.at
