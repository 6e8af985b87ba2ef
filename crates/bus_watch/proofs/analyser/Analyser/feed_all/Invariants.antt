use Rattle.std.proofs.Common.{◌≡◌, take, length}
use Rattle.bus_watch.specs.Fed.{Fed}
use Rattle.bus_pairing.specs.Sink.{SinkTook}
use Rattle.bus_watch.specs.Headline.{bits_in}
use Rattle.bus_watch.proofs.analyser.Analyser.feed_all.Given as goal

-- the sink took what is seen at the pieces so far
abbrev pub invariant-loop-piece : goal.invariant-loop-piece
invariant-loop-piece g l = record {
  fed : Fed g.C.Check.check g.S.ReportSink.sink l.fn.self (bits_in (take l.piece-index l.pieces))
      l.self l.fn.sink l.sink;
  count : l.before ≡ length (bits_in (take l.piece-index l.pieces));
  sink : SinkTook g.S.ReportSink.sink 0 l.fn.sink l.sink;
}
