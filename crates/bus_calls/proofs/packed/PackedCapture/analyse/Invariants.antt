use Rattle.std.proofs.Common.{ℕ, ◌-◌, ◌≤◌, List, ◌++◌, Option, length, take}
use Rattle.bus_calls.specs.Internal.Watching.{IsSound, IsSame}
use Rattle.bus_calls.specs.Internal.Sessions.{BodyAfter, PackedSourceAfter}
use Rattle.bus_calls.proofs.packed.PackedCapture.analyse.Given as goal

abbrev pub invariant-loop-taken : goal.invariant-loop-taken
invariant-loop-taken g l = record {
  within : l.taken ≤ length l.octets;
  sound : IsSound g.T.CaptureKind.kind l.run;
  same : IsSame g.T.CaptureKind.kind l.fn.run l.run;
  front : (start : Option (List ℕ)) (xs : List ℕ) →
      PackedSourceAfter g.T.CaptureKind.kind start (g.W.Write.contents l.fn.w) l.fn.self l.fn.run xs
      → BodyAfter g.T.CaptureKind.kind start (g.W.Write.contents l.w) l.body l.run (xs ++ take l.taken l.octets);
}

abbrev pub decreases-loop-taken : goal.decreases-loop-taken
decreases-loop-taken g l = length l.octets - l.taken
