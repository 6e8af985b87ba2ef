-- Bits of octets, one after the other (ISO/IEC 13239, order of bit transmission).
use Rattle.std.specs.Prelude.{◌==◌, ℕ, zero, suc, ◌+◌, ◌/◌, ◌%◌, ◌^◌, Bool, List, [], ◌∷◌, slice_index}

-- bit i of octets, the lowest of each first
abbrev pub bit_at : List ℕ → ℕ → Bool
bit_at octets i = (slice_index octets (i / 8) / 2 ^ (i % 8)) % 2 == 1

-- these many bits of octets, from bit i on
unfoldable pub bits_from : List ℕ → ℕ → ℕ → List Bool
bits_from octets i zero = []
bits_from octets i (suc n) = bit_at octets i ∷ bits_from octets (i + 1) n
