-- The text of arrivals.
use Rattle.std.specs.Prelude.{ℕ, suc, ◌%◌, ◌==◌, true, false, List, [], ◌∷◌, ◌++◌, length, map, take, drop}
use Rattle.std.specs.Prelude.{if◌then◌else◌}
use Rattle.std.specs.List.{flat_map}
use Rattle.bus_line.specs.Due.{places}
use Rattle.bus_line.specs.declared.line.Line.TheVariants.{First, Second}
use Rattle.bus_tap.specs.Arrival.{Arrival}

-- the mark of a bit: `0` or `1` on the first line, `o` or `i` on the second
abbrev pub mark : Arrival → ℕ
mark (First, false) = 48
mark (First, true) = 49
mark (Second, false) = 111
mark (Second, true) = 105

-- a line ends after each 64th mark
abbrev pub line_end : ℕ → List ℕ
line_end marks = if marks % 64 == 0 then 10 ∷ [] else []

-- the mark of arrival `i`, and the end of its line
abbrev pub mark_at : List Arrival → ℕ → List ℕ
mark_at xs i = map mark (take 1 (drop i xs)) ++ line_end (suc i)

-- the text of arrivals
abbrev pub marks_text : List Arrival → List ℕ
marks_text xs = flat_map (mark_at xs) (places (length xs))

-- with the end of the last line
abbrev pub whole_text : List Arrival → List ℕ
whole_text xs = marks_text xs ++ (if length xs % 64 == 0 then [] else 10 ∷ [])
