-- A law over the text of arrivals.
use Rattle.std.specs.Prelude.{◌≡◌, Bool, true, false, List, map, None}
use Rattle.bus_formats.specs.Capture.{text_arrivals, text_arrivals_fault}
use Rattle.bus_line.specs.declared.line.Line.TheVariants.{First, Second}
use Rattle.bus_tap.specs.Arrival.{Arrival}
use Rattle.bus_sample.specs.Marks.{whole_text}

-- an arrival as a capture has it: its bit, and whether it is one of the second line
abbrev pub captured : Arrival → Bool × Bool
captured (First, bit) = (bit, false)
captured (Second, bit) = (bit, true)

-- the text of arrivals is a capture of exactly these
abbrev pub TextIsReadBack : Type 0
TextIsReadBack = (xs : List Arrival) →
    (text_arrivals (whole_text xs) ≡ map captured xs) × (text_arrivals_fault (whole_text xs) ≡ None)
