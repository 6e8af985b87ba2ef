-- Octets as bits, the least significant first (ISO/IEC 13239, order of bit transmission).
use Rattle.std.specs.Prelude.{◌≡◌, ℕ, zero, suc, ◌+◌, ◌*◌, ◌/◌, ◌%◌, ◌<◌, ◌==◌, cond, Bool, List, [], ◌∷◌, length, All}
use Rattle.std.specs.List.{flat_map}

-- the lowest `k` bits of `n`, the least significant first
unfoldable pub bits_of : ℕ → ℕ → List Bool
bits_of zero n = []
bits_of (suc k) n = (n % 2 == 1) ∷ bits_of k (n / 2)

-- the bits of octets, in the order sent
unfoldable pub bits_of_octets : List ℕ → List Bool
bits_of_octets octets = flat_map (bits_of 8) octets

-- the number with these bits, the least significant first
unfoldable pub number : List Bool → ℕ
number [] = 0
number (b ∷ d) = number d * 2 + cond b 1 0

-- the number of each eight bits in turn; fewer than eight at the end give none
unfoldable pub octets : List Bool → List ℕ
octets (s ∷ t ∷ u ∷ v ∷ w ∷ x ∷ y ∷ z ∷ d) = number (s ∷ t ∷ u ∷ v ∷ w ∷ x ∷ y ∷ z ∷ []) ∷ octets d
octets d = []

-- octets are those of their bits
abbrev pub BitsOfOctets : Type 0
BitsOfOctets = (os : List ℕ) → All (λ o. o < 256) os → octets (bits_of_octets os) ≡ os

-- and data of whole octets are the bits of these
abbrev pub OctetsOfBits : Type 0
OctetsOfBits = (d : List Bool) → length d % 8 ≡ 0 → bits_of_octets (octets d) ≡ d

-- a number below 256 is that of its eight bits
abbrev pub NumberOfBits : Type 0
NumberOfBits = (o : ℕ) → o < 256 → number (bits_of 8 o) ≡ o

-- and eight bits are those of their number
abbrev pub BitsOfNumber : Type 0
BitsOfNumber = (b : List Bool) → length b ≡ 8 → bits_of 8 (number b) ≡ b
