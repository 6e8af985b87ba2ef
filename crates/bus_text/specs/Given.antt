-- What options ask for.
use Rattle.std.specs.Prelude.{ℕ, Bool, true, false, List, Option, Some, None, option_map}
use Rattle.bus_text.specs.declared.options.Options.{Options}
use Rattle.bus_text.specs.declared.filter.Filter.{Filter}
use Rattle.bus_text.specs.declared.printer.Printer.{Printer}

-- the text of the dictionary, if there is one
abbrev pub dictionary_text : Options → Option (List ℕ)
dictionary_text o = option_map (λ s. s.now) o.dictionary

abbrev pub is_given : {A : Type 0} → Option A → Bool
is_given None = false
is_given (Some a) = true

abbrev pub filter_of : Options → Filter
filter_of o = record { station = o.station; ftype = o.ftype; kind = o.kind }

-- heads are named where there is a dictionary
abbrev pub printer_of : Options → Printer
printer_of o = record { heads = is_given o.dictionary; filter = filter_of o }
