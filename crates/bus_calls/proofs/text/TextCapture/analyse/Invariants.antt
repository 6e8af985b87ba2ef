use Rattle.std.proofs.Common.{ℕ, ◌-◌, List, ◌++◌, Option, length, take}
use Rattle.bus_calls.specs.Internal.Watching.{IsSound, IsSame}
use Rattle.bus_calls.specs.Internal.Sessions.{TextAfter, OctetsAfter}
use Rattle.bus_calls.proofs.text.TextCapture.analyse.Given as goal

abbrev pub invariant-loop-taken : goal.invariant-loop-taken
invariant-loop-taken g l = record {
  sound : IsSound g.T.CaptureKind.kind l.run;
  same : IsSame g.T.CaptureKind.kind l.initial.run l.run;
  front : (start : Option (List ℕ)) (xs : List ℕ) →
      TextAfter g.T.CaptureKind.kind start (g.W.Write.contents l.initial.w) l.initial.self l.initial.run xs
      → OctetsAfter g.T.CaptureKind.kind start (g.W.Write.contents l.w) l.run (xs ++ take l.taken l.octets);
}

abbrev pub decreases-loop-taken : goal.decreases-loop-taken
decreases-loop-taken g l = length l.octets - l.taken
