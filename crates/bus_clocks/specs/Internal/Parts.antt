-- Arrivals parted by line, and those up to a bit of the second line.
use Rattle.std.specs.Prelude.{◌≡◌, ℕ, zero, suc, ◌<◌, ◌≤◌, List, [], ◌∷◌, length, Some, slice_get}
use Rattle.bus_line.specs.declared.line.Line.TheVariants.{First, Second}
use Rattle.bus_tap.specs.Arrival.{Arrival, own, firsts_before}
use Rattle.bus_clocks.specs.declared.parted.Parted.{Parted}

-- the bits of either line, at most 512, and how many bits of the first come before each of the second
pub record Parts (xs : List Arrival) (p : Parted) : Type 0 where
  pub few : length xs ≤ 512
  pub long : length p.before ≡ 512
  pub first : p.first ≡ own First xs
  pub second : p.second ≡ own Second xs
  pub before : (k : ℕ) → k < length (own Second xs) → slice_get p.before k ≡ Some (firsts_before k xs)

-- the arrivals up to the last of so many bits of the second line
abbrev pub upto : ℕ → List Arrival → List Arrival
upto zero xs = []
upto (suc n) [] = []
upto (suc n) ((First, bit) ∷ xs) = (First, bit) ∷ upto (suc n) xs
upto (suc n) ((Second, bit) ∷ xs) = (Second, bit) ∷ upto n xs

-- and those beyond it
abbrev pub beyond : ℕ → List Arrival → List Arrival
beyond zero xs = xs
beyond (suc n) [] = []
beyond (suc n) ((First, bit) ∷ xs) = beyond (suc n) xs
beyond (suc n) ((Second, bit) ∷ xs) = beyond n xs
