use Rattle.std.proofs.Common.{◌+◌, ◌-◌, ◌≤◌, None}
use Rattle.bus_bits.specs.Bits.{bits_from}
use Rattle.bus_line.specs.After.{Decides}
use Rattle.bus_line.specs.Words.{IsDecoder, state}
use Rattle.bus_line.proofs.decoder_words.DecoderWords.run_piece.Given as goal

abbrev pub invariant-loop-run : goal.invariant-loop-run
invariant-loop-run g l = record {
  begun : l.from ≤ l.at;
  enough : l.at + 64 ≤ l.end;
  decides : Decides g.C.Check.check (state l.fn.self l.fn.check (g.F.FrameBuffer.octets l.fn.frame))
      (bits_from l.octets l.from (l.at - l.from)) None (state l.self l.check (g.F.FrameBuffer.octets l.frame));
  sound : IsDecoder l.self (g.F.FrameBuffer.octets l.frame);
}

abbrev pub decreases-loop-run : goal.decreases-loop-run
decreases-loop-run g l = l.end - l.at
