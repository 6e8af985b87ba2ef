use Rattle.std.proofs.Common.{◌≡◌, ◌+◌, ◌-◌, ◌≤◌, ◌^◌, None, List, ℕ}
use Rattle.bus_bits.specs.Bits.{bits_from}
use Rattle.bus_line.specs.After.{Decides}
use Rattle.bus_line.specs.Words.{AreDecoderWords, state}
use Rattle.bus_line.proofs.decoder_words.DecoderWords.run_quiet.Given as goal

abbrev pub invariant-loop-run : goal.invariant-loop-run
invariant-loop-run g l = record {
  begun : l.from ≤ l.at;
  enough : l.at + 64 ≤ l.end;
  quiet : l.self.settles_at ≡ 2 ^ 62;
  longest : l.self.longest ≡ l.fn.self.longest;
  place : l.self.place ≡ l.fn.self.place + (l.at - l.from);
  decides : (check : g.row.C.Denot) (held : List ℕ) → Decides g.C.Check.check (state l.fn.self check held)
      (bits_from l.octets l.from (l.at - l.from)) None (state l.self check held);
  within : AreDecoderWords l.self;
}

abbrev pub decreases-loop-run : goal.decreases-loop-run
decreases-loop-run g l = l.end - l.at
