use Rattle.std.proofs.Common.{rules}
use Rattle.bus_dictionary.proofs.LawsLemmas.{empty_is_map}
use Rattle.bus_dictionary.proofs.TypeNumbersLemmas.{none}
use Rattle.bus_dictionary.proofs.dictionary.Dictionary.empty.Goals as goal

pub invariant_of-result : goal.invariant_of-result
invariant_of-result c = record { sound = rw c.new.ensures.items empty_is_map; numbers = search (rules, none) }
