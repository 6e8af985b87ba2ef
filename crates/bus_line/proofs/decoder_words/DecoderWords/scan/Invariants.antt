use Rattle.std.proofs.Common.{◌-◌, ◌≤◌, None}
use Rattle.bus_bits.specs.Bits.{bits_from}
use Rattle.bus_line.specs.After.{Decides}
use Rattle.bus_line.specs.Words.{IsDecoder, state}
use Rattle.bus_line.proofs.decoder_words.DecoderWords.scan.Given as goal

abbrev pub invariant-loop-reached : goal.invariant-loop-reached
invariant-loop-reached g l = record {
  begun : l.at ≤ l.reached;
  ends : l.reached ≤ l.past;
  decides : Decides g.C.Check.check (state l.fn.self l.fn.check (g.F.FrameBuffer.octets l.fn.frame))
      (bits_from l.octets l.at (l.reached - l.at)) None (state l.self l.check (g.F.FrameBuffer.octets l.frame));
  sound : IsDecoder l.self (g.F.FrameBuffer.octets l.frame);
}

abbrev pub decreases-loop-reached : goal.decreases-loop-reached
decreases-loop-reached g l = l.past - l.reached
