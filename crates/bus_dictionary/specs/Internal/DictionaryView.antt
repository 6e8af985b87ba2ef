-- What always holds of a dictionary's fields.
use Rattle.bus_dictionary.specs.Laws.{IsDictionary}
use Rattle.bus_dictionary.specs.Internal.TypeNumbers.{Numbers}
use Rattle.bus_dictionary.specs.declared.dictionary.Dictionary.TheInside.{Inside}

-- its entries are those of a dictionary, and each type has the number of its entry
pub record IsWithin (d : Inside) : Type 0 where
  pub sound : IsDictionary d.entries.items
  pub numbers : Numbers d.numbers d.entries.items d.entries.items
