use Rattle.std.proofs.Common.{◌≡◌, take}
use Rattle.bus_line.specs.Internal.StuffingWriter.{Sent}
use Rattle.bus_line.specs.Internal.Inserting.{raw_after, run_after}
use Rattle.bus_line.proofs.encoder.stuffing_writer.StuffingWriter.send_octet.Given as goal

-- the bits so far went out
abbrev pub invariant-loop-bit : goal.invariant-loop-bit
invariant-loop-bit g l = record {
  sent : Sent g.S.BitSink.sink (raw_after l.fn.self.run (take l.bit-index l.bit-items)) l.fn.self
      l.self l.fn.sink l.sink;
  run : l.self.run ≡ run_after l.fn.self.run (take l.bit-index l.bit-items);
}
