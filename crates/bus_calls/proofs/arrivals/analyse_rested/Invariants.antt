use Rattle.std.proofs.Common.{ℕ, ◌-◌, ◌≤◌, Bool, List, ◌++◌, Option, zip}
use Rattle.bus_bits.specs.Bits.{bits_from}
use Rattle.bus_calls.specs.Internal.Arrivals.{arrivals_kind}
use Rattle.bus_calls.specs.Internal.Watching.{IsSound, FeedAfter, IsSame}
use Rattle.bus_calls.proofs.arrivals.analyse_rested.Given as goal

-- the symbols so far were taken
abbrev pub invariant-loop-taken : goal.invariant-loop-taken
invariant-loop-taken g l = record {
  within : l.taken ≤ l.count;
  sound : IsSound (arrivals_kind g.C.Check.check) l.run;
  same : IsSame (arrivals_kind g.C.Check.check) l.initial.run l.run;
  fed : (start : Option (List ℕ)) (b : List (Bool × Bool)) →
      FeedAfter (arrivals_kind g.C.Check.check) start (g.W.Write.contents l.initial.w) l.initial.run b →
      FeedAfter (arrivals_kind g.C.Check.check) start (g.W.Write.contents l.w) l.run
      (b ++ zip (bits_from l.bits 0 l.taken) (bits_from l.lines 0 l.taken));
}

abbrev pub decreases-loop-taken : goal.decreases-loop-taken
decreases-loop-taken g l = l.count - l.taken
