use Rattle.std.proofs.Common.{◌≡◌, ◌+◌, ◌*◌, ◌++◌, List, ℕ, take}
use Rattle.bus_fcs.proofs.check.Check.fold_eight.Given as goal

-- the octets so far are folded, and counted
abbrev pub invariant-loop-octet : goal.invariant-loop-octet
invariant-loop-octet g l = record {
  folded : (before : List ℕ) → g.Self.Check.check.folded l.initial.self before →
      g.Self.Check.check.folded l.self (before ++ take l.octet-index l.octets);
  spent :
      l.spent
      ≡ record l.initial.spent { folded = l.initial.spent.folded + g.Self.Check.check.cost * l.octet-index };
}
