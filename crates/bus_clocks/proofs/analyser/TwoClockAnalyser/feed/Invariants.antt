use Rattle.std.proofs.Common.{◌+◌, ◌-◌, ◌≤◌, length, take, drop}
use Rattle.bus_bits.specs.Limits.{most_places}
use Rattle.bus_pairing.specs.Sink.{SinkTook}
use Rattle.bus_line.specs.declared.line.Line.{Line}
use Rattle.bus_watch.specs.Fed.{FedBy}
use Rattle.bus_tap.specs.Arrival.{own}
use Rattle.bus_clocks.specs.Clocks.{two_clocks, decoder_on}
use Rattle.bus_clocks.proofs.analyser.TwoClockAnalyser.feed.Given as goal

-- the sink took what is seen at the arrivals so far, and the others have a place
abbrev pub invariant-loop-consumed : goal.invariant-loop-consumed
invariant-loop-consumed g l = record {
  within : l.consumed ≤ length l.fn.arrivals;
  fed : FedBy (two_clocks g.C.Check.check) g.S.PairSink.sink l.fn.self (take l.consumed l.fn.arrivals)
      l.self l.fn.sink l.sink;
  sink : SinkTook g.S.PairSink.sink 0 l.fn.sink l.sink;
  room : (line : Line) →
      (decoder_on l.self line).place + length (own line (drop l.consumed l.fn.arrivals)) ≤ most_places;
}

abbrev pub decreases-loop-consumed : goal.decreases-loop-consumed
decreases-loop-consumed g l = length l.arrivals - l.consumed
