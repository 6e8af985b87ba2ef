use Rattle.std.proofs.Common.{ℕ, ◌+◌, ◌*◌, ◌≤◌, List, ◌++◌, Option, take}
use Rattle.bus_calls.specs.Internal.EncodeState.{EncodedAfter}
use Rattle.bus_calls.proofs.encode.reader.LineReader.consume_octets.Given as goal

-- the octets so far were taken
abbrev pub invariant-loop-octet : goal.invariant-loop-octet
invariant-loop-octet g l = record {
  taken : (start : Option (List ℕ)) (xs : List ℕ)
      → EncodedAfter start (g.W.Write.contents l.initial.w) l.initial.self.line.octets.items l.initial.self.line.number
      l.initial.self.encoder l.initial.self.written xs
      → EncodedAfter start
      (g.W.Write.contents l.w) l.self.line.octets.items l.self.line.number l.self.encoder l.self.written
      (xs ++ take l.octet-index l.octets);
  few : l.self.written ≤ l.initial.self.written + 2493 * l.octet-index;
  lines : l.self.line.number ≤ l.initial.self.line.number + l.octet-index;
}
