-- What contracts see of a sink of bits.
use Rattle.std.specs.Prelude.{ℕ, Bool, List, Option}

-- the bits that it took, unless it leaves them untold, and how many it refused
pub record BitSinkView (S : Type 0) : Type 0 where
  pub taken : S → Option (List Bool)
  pub refusals : S → ℕ
