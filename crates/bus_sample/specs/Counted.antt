-- What contracts see of a reader with a count.
use Rattle.std.specs.Prelude.{ℕ}

-- the reader, and how many of its reads failed
pub record CountedState (R : Type 0) : Type 0 where
  pub reader : R
  pub failures : ℕ
