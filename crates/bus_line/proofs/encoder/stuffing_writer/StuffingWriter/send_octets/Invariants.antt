use Rattle.std.proofs.Common.{◌≡◌, take}
use Rattle.bus_bits.specs.Octet.{bits_of_octets}
use Rattle.bus_line.specs.Internal.StuffingWriter.{Sent}
use Rattle.bus_line.specs.Internal.Inserting.{raw_after, run_after}
use Rattle.bus_line.proofs.encoder.stuffing_writer.StuffingWriter.send_octets.Given as goal

-- the octets so far went out
abbrev pub invariant-loop-octet : goal.invariant-loop-octet
invariant-loop-octet g l = record {
  sent : Sent g.S.BitSink.sink
      (raw_after l.fn.self.run (bits_of_octets (take l.octet-index l.octets))) l.fn.self l.self l.fn.sink l.sink;
  run : l.self.run ≡ run_after l.fn.self.run (bits_of_octets (take l.octet-index l.octets));
}
