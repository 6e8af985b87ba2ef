use Rattle.std.proofs.Common.{◌≡◌, ◌-◌, ◌≤◌, ◌++◌, List, ℕ, Option, take, length}
use Rattle.bus_sample.specs.Internal.Runs.{HasRead, IsSoundRun}
use Rattle.bus_sample.proofs.reader.SampleRun.read_samples.Given as goal

-- the samples so far were taken
abbrev pub invariant-loop-at : goal.invariant-loop-at
invariant-loop-at g l = record {
  within : l.at ≤ length l.octets;
  read : (start : Option (List ℕ)) (xs : List ℕ) →
      HasRead start (g.W.Write.contents l.initial.w) l.initial.self xs →
      HasRead start (g.W.Write.contents l.w) l.self (xs ++ take l.at l.octets);
  options : l.self.options ≡ l.initial.self.options;
  sound : IsSoundRun l.self;
}

abbrev pub decreases-loop-at : goal.decreases-loop-at
decreases-loop-at g l = length l.octets - l.at
