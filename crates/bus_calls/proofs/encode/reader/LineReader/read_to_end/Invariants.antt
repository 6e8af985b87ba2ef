use Rattle.std.proofs.Common.{ℕ, ◌+◌, ◌*◌, ◌≤◌, List, length}
use Rattle.std.specs.Io.KnownBytes.{Consumes}
use Rattle.bus_calls.specs.Internal.EncodeState.{EncodedAfter}
use Rattle.bus_calls.proofs.encode.reader.LineReader.read_to_end.Given as goal

-- some octets were read, at least one a turn, and taken
abbrev pub invariant-loop-turn : goal.invariant-loop-turn
invariant-loop-turn g l = record {
  few : l.self.written ≤ 10211328 * l._turn;
  lines : l.self.line.number ≤ 1 + 4096 * l._turn;
  taken : (xs : List ℕ) × Consumes (g.R.Read.remaining l.initial.r) (g.R.Read.remaining l.r) xs
      × EncodedAfter (g.W.Write.contents l.initial.w)
      (g.W.Write.contents l.w) l.self.line.octets.items l.self.line.number
      l.self.encoder l.self.written xs
      × (l._turn ≤ length xs);
}
