-- Bits that come into octets, and bits of an octet whose highest bit comes first.
use Rattle.std.specs.Prelude.{◌≡◌, ℕ, ◌+◌, ◌≤◌, ◌<◌, ◌⊎◌, Bool, List, length, take, drop, reverse}
use Rattle.bus_bits.specs.Octet.{bits_of}
use Rattle.bus_bits.specs.Bits.{bit_at, bits_from}

-- from bit `at` on these bits came into the octets, and all others are as they were
pub record PutsBits (old : List ℕ) (at : ℕ) (bits : List Bool) (new : List ℕ) : Type 0 where
  pub long : length new ≡ length old
  pub put : bits_from new at (length bits) ≡ bits
  pub before : (i : ℕ) → i < at → bit_at new i ≡ bit_at old i
  pub behind : (i : ℕ) → at + length bits ≤ i → bit_at new i ≡ bit_at old i

-- from bit `at` on these many bits of the source came into the octets, from its bit `first` on
pub record CopiesBits (old : List ℕ) (at : ℕ) (source : List ℕ) (first count : ℕ) (new : List ℕ) : Type 0 where
  pub long : length new ≡ length old
  pub put : (i : ℕ) → i < count → bit_at new (at + i) ≡ bit_at source (first + i)
  pub kept : (i : ℕ) → (i < at) ⊎ (at + count ≤ i) → bit_at new i ≡ bit_at old i

-- these many bits of an octet, from bit `at` on, bit 0 being the highest
abbrev pub high_first : ℕ → ℕ → ℕ → List Bool
high_first octet at n = take n (drop at (reverse (bits_of 8 octet)))
