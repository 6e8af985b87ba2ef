use Rattle.std.proofs.Common.{ℕ, List, ◌++◌, Option, take}
use Rattle.bus_calls.specs.Internal.Watching.{IsSound, FeedAfter, IsSame}
use Rattle.bus_calls.proofs.packed.analyse_symbols.Given as goal

abbrev pub invariant-loop-symbol : goal.invariant-loop-symbol
invariant-loop-symbol g l = record {
  sound : IsSound g.T.CaptureKind.kind l.run;
  same : IsSame g.T.CaptureKind.kind l.initial.run l.run;
  followed : (start : Option (List ℕ)) (b : List g.row.T-Symbol.Denot) →
      FeedAfter g.T.CaptureKind.kind start (g.W.Write.contents l.initial.w) l.initial.run b
      → FeedAfter g.T.CaptureKind.kind start (g.W.Write.contents l.w) l.run (b ++ take l.symbol-index l.symbols);
}
