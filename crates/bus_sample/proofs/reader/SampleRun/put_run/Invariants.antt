use Rattle.std.proofs.Common.{◌≡◌, ◌-◌, ◌≤◌, ◌++◌, List, ℕ, Option, replicate}
use Rattle.bus_tap.specs.Tapped.{channels}
use Rattle.bus_sample.specs.Internal.Runs.{RunAfter, IsSoundRun, IsSameRecord}
use Rattle.bus_sample.proofs.reader.SampleRun.put_run.Given as goal

-- the samples so far were taken
abbrev pub invariant-loop-left : goal.invariant-loop-left
invariant-loop-left g l = record {
  within : l.left ≤ l.count;
  taken : (sample : ℕ) → l.levels ≡ channels l.initial.self.options.wires sample →
      (start : Option (List ℕ)) (ss : List ℕ) →
      RunAfter start (g.W.Write.contents l.initial.w) l.initial.self ss →
      RunAfter start (g.W.Write.contents l.w) l.self (ss ++ replicate (l.count - l.left) sample);
  same : IsSameRecord l.initial.self l.self;
  sound : IsSoundRun l.self;
}

abbrev pub decreases-loop-left : goal.decreases-loop-left
decreases-loop-left g l = l.left
