use Rattle.std.proofs.Common.{◌≤◌, ◌-◌, length, take}
use Rattle.bus_watch.specs.Fed.{FedBy}
use Rattle.bus_watch.specs.Pairs.{two_lines}
use Rattle.bus_pairing.specs.Sink.{SinkTook}
use Rattle.bus_watch.proofs.pair.analyser.PairAnalyser.feed.Given as goal

-- the sink took what is seen at the pairs so far
abbrev pub invariant-loop-consumed : goal.invariant-loop-consumed
invariant-loop-consumed g l = record {
  within : l.consumed ≤ length l.fn.pairs;
  fed : FedBy (two_lines g.C.Check.check) g.S.PairSink.sink l.fn.self (take l.consumed l.fn.pairs)
      l.self l.fn.sink l.sink;
  sink : SinkTook g.S.PairSink.sink 0 l.fn.sink l.sink;
}

abbrev pub decreases-loop-consumed : goal.decreases-loop-consumed
decreases-loop-consumed g l = length l.pairs - l.consumed
