use Rattle.std.proofs.Common.{◌≡◌, ◌*◌, ◌≤◌, List, ℕ, length}
use Rattle.std.specs.Io.KnownBytes.{Consumes}
use Rattle.bus_sample.specs.Looks.{HasTold}
use Rattle.bus_sample.specs.Internal.Runs.{HasRead, IsSoundRun}
use Rattle.bus_sample.proofs.reader.SampleRun.read_to_end.Given as goal

-- some octets were read, at least one a turn, and taken
abbrev pub invariant-loop-turn : goal.invariant-loop-turn
invariant-loop-turn g l = record {
  few : l.octets ≤ 65536 * l._turn;
  unfailed : g.R.RecordingReader.failures l.r ≡ g.R.RecordingReader.failures l.initial.r;
  options : l.self.options ≡ l.initial.self.options;
  sound : IsSoundRun l.self;
  read : (xs : List ℕ) × Consumes (g.R.RecordingReader.remaining l.initial.r) (g.R.RecordingReader.remaining l.r) xs
      × HasRead (g.W.Write.contents l.initial.w) (g.W.Write.contents l.w) l.self xs
      × (l._turn ≤ length xs) × (l.octets ≡ length xs)
      × HasTold l.initial.self.options (g.E.Write.contents l.initial.e) (g.E.Write.contents l.e) xs;
}
