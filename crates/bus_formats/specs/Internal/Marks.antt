-- The marks of a text, told by their bits.
use Rattle.std.specs.Prelude.{◌≡◌, ◌<◌, ◌↔◌, ℕ, Bool, true, bit_and, bit_xor}

-- the marks are the octets that have the bits of `0` wherever `high` has a 1
abbrev pub HasMarks : ℕ → (ℕ → Bool) → Type 0
HasMarks high is_mark = (x : ℕ) → x < 256 → (is_mark x ≡ true) ↔ (bit_and (bit_xor x 48) high ≡ 0)
