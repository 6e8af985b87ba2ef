-- Texts of one line on the writer of faults.
use Rattle.std.specs.Prelude.{◌≡◌, ◌<◌, ◌++◌, ◌⊎◌, ℕ, Bool, true, List, length, take, codes, Option}
use Rattle.std.specs.Io.KnownBytes.{Appends}

-- a text and the end of its line
abbrev pub line : List ℕ → List ℕ
line text = text ++ codes "\n"

-- a writer of faults, which went from `start` to `now`, got the whole text, or its first octets and has failed
abbrev pub Reports : Option (List ℕ) → Option (List ℕ) → Bool → List ℕ → Type 0
Reports start now failed text =
    Appends start now text
    ⊎ ((failed ≡ true) × (sent : ℕ) × (sent < length text) × Appends start now (take sent text))
