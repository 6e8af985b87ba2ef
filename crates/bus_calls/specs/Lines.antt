-- The lines of a text.
use Rattle.std.specs.Prelude.{ℕ, List, [], ◌∷◌, ◌++◌, ◌==◌, length, take, map, filter, slice_index, Option, Some, None}
use Rattle.std.specs.Path.{rsplit_once}
use Rattle.bus_line.specs.Due.{places}

-- what stands after the last LF, by the split there: all, where there is none
abbrev pub behind_last : List ℕ → Option (List ℕ × List ℕ) → List ℕ
behind_last xs None = xs
behind_last xs (Some parts) = parts.1

-- what stands after the last LF
unfoldable pub open_line : List ℕ → List ℕ
open_line xs = behind_last xs (rsplit_once 10 xs)

-- the places of LF
abbrev pub line_ends : List ℕ → List ℕ
line_ends xs = filter (λ i. slice_index xs i == 10) (places (length xs))

-- the lines of these octets that LF ends, each without it: what stands open before each LF
unfoldable pub ended_lines : List ℕ → List (List ℕ)
ended_lines xs = map (λ i. open_line (take i xs)) (line_ends xs)

-- what stands after the last LF is a line where it is not empty
abbrev pub last_line : List ℕ → List (List ℕ)
last_line [] = []
last_line (x ∷ xs) = (x ∷ xs) ∷ []

-- all lines of these octets, the last of which may end with them
abbrev pub all_lines : List ℕ → List (List ℕ)
all_lines xs = ended_lines xs ++ last_line (open_line xs)
