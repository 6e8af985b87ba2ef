use Rattle.std.proofs.Common.{◌≡◌, take}
use Rattle.bus_line.specs.Internal.StuffingWriter.{Sent}
use Rattle.bus_line.proofs.encoder.stuffing_writer.StuffingWriter.send_all.Given as goal

-- the bits so far went out
abbrev pub invariant-loop-bit : goal.invariant-loop-bit
invariant-loop-bit g l = record {
  sent : Sent g.S.BitSink.sink (take l.bit-index l.bits) l.fn.self l.self l.fn.sink l.sink;
  run : l.self.run ≡ l.fn.self.run;
}
