use Rattle.std.proofs.Common.{◌≡◌, ◌++◌, List, ℕ, Option, take}
use Rattle.bus_sample.specs.Internal.Runs.{HasRead, IsSoundRun}
use Rattle.bus_sample.proofs.reader.SampleRun.read_octets.Given as goal

-- the octets so far were taken
abbrev pub invariant-loop-octet : goal.invariant-loop-octet
invariant-loop-octet g l = record {
  read : (start : Option (List ℕ)) (xs : List ℕ) →
      HasRead start (g.W.Write.contents l.initial.w) l.initial.self xs →
      HasRead start (g.W.Write.contents l.w) l.self (xs ++ take l.octet-index l.octets);
  options : l.self.options ≡ l.initial.self.options;
  sound : IsSoundRun l.self;
}
