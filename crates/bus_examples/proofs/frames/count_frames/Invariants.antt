use Rattle.std.proofs.Common.{◌≡◌, ◌≤◌, ◌^◌, take}
use Rattle.bus_line.specs.Due.{placed}
use Rattle.bus_line.specs.After.{After}
use Rattle.bus_examples.specs.Frames.{frame_count}
use Rattle.bus_examples.proofs.frames.count_frames.Given as goal

abbrev pub invariant-loop-bit : goal.invariant-loop-bit
invariant-loop-bit g l = record {
  after : After g.C.Check.check l.decoder (take l.bit-index l.bits);
  origin : l.decoder.origin ≡ 0;
  longest : l.decoder.longest ≡ 256;
  count : l.count ≡ frame_count (placed 0 256 (take l.bit-index l.bits));
  few : l.count ≤ l.bit-index;
  place : l.decoder.place ≡ l.bit-index;
  room : l.bit-index ≤ 2 ^ 60;
}
