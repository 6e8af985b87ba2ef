use Rattle.std.proofs.Common.{◌≤◌, length, drop}
use Rattle.bus_dictionary.specs.Internal.TypeNumbers.{Numbers}
use Rattle.bus_dictionary.proofs.dictionary.numbers.numbers_of.Given as goal

abbrev pub invariant-loop-number : goal.invariant-loop-number
invariant-loop-number l = record {
  number : l.number ≤ length l.entries;
  numbers : Numbers l.numbers (drop l.number l.entries) l.entries;
}

abbrev pub decreases-loop-number : goal.decreases-loop-number
decreases-loop-number l = l.number
