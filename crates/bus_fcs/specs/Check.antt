-- What contracts see of a frame check.
use Rattle.std.specs.Prelude.{ℕ, List}

-- the octets that lead to a state of the check, and the units of work of one fold
pub record CheckView (C : Type 0) : Type 1 where
  pub folded : C → List ℕ → Type 0
  pub cost : ℕ
