use Rattle.std.proofs.Common.{◌≡◌, ℕ, ◌*◌, ◌≤◌, List, length}
use Rattle.std.specs.Io.KnownBytes.{Consumes}
use Rattle.bus_calls.specs.Internal.Watching.{IsSound, IsSame}
use Rattle.bus_calls.specs.Internal.Sessions.{SourceAfter, is_text}
use Rattle.bus_calls.specs.Internal.Reading.{octets_taken}
use Rattle.bus_calls.proofs.reader.CaptureReader.read_to_end.Given as goal

-- some octets were read, at least one a turn, and taken
abbrev pub invariant-loop-turn : goal.invariant-loop-turn
invariant-loop-turn g l = record {
  sound : IsSound g.T.CaptureKind.kind l.self.run;
  same : IsSame g.T.CaptureKind.kind l.initial.self.run l.self.run;
  text : is_text l.self.source ≡ is_text l.initial.self.source;
  few : octets_taken l.self.source ≤ 65536 * l._turn;
  taken : (xs : List ℕ) × Consumes (g.R.Read.remaining l.initial.r) (g.R.Read.remaining l.r) xs
      × SourceAfter g.T.CaptureKind.kind (g.W.Write.contents l.initial.w) (g.W.Write.contents l.w)
      l.self.source l.self.run
      xs
      × (l._turn ≤ length xs);
}
