-- Arrivals with which the second line cannot come to rest.
use Rattle.std.specs.Prelude.{◌≡◌, ◌≤◌, ℕ, List, ◌++◌, length}
use Rattle.bus_tap.specs.Arrival.{Arrival}
use Rattle.bus_tap.specs.Rested.{rested}

-- so many more arrivals, whatever they are, bring no rest
abbrev pub IsQuietFor : ℕ → List Arrival → ℕ → Type 0
IsQuietFor most xs left = (ys : List Arrival) → length ys ≤ left → rested most (xs ++ ys) ≡ rested most xs ++ ys

-- these bring no rest, and of those behind them so many will not, whatever they are
pub record Passes (most : ℕ) (xs ys : List Arrival) (left : ℕ) : Type 0 where
  pub same : rested most (xs ++ ys) ≡ rested most xs ++ ys
  pub quiet : IsQuietFor most (xs ++ ys) left
