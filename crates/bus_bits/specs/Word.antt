-- Some bits in a number.
use Rattle.std.specs.Prelude.{ℕ, ◌≤◌, ◌<◌, ◌^◌}

-- a word of 1 to 48 bits, the first lowest: the number has no others
pub record IsWordOf (count bits : ℕ) : Type 0 where
  pub some : 1 ≤ count
  pub few : count ≤ 48
  pub small : bits < 2 ^ count
