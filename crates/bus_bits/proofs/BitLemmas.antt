-- Bits of octets, one after the other.
use Rattle.std.proofs.Common.{◌≡◌, ℕ, zero, suc, ◌+◌, ◌*◌, ◌/◌, ◌%◌, ◌^◌, ◌≤◌, ◌==◌, List, ◌∷◌, ◌++◌, length, take}
use Rattle.std.proofs.Common.{refl, ap, ◌∙◌, arith}
use Rattle.std.proofs.lemmas.Nat.{shr-shr}
use Rattle.std.specs.Prelude.{slice_index}
use Rattle.bus_bits.specs.Octet.{bits_of}
use Rattle.bus_bits.specs.Bits.{bit_at, bits_from}

-- these, and those after them
pub bits-more : (os : List ℕ) (i m n : ℕ) → bits_from os i (m + n) ≡ bits_from os i m ++ bits_from os (i + m) n
unfolding bits_from
bits-more os i zero n =
    let here : i ≡ i + 0 = omega arith in
    let none : 0 + n ≡ n = omega arith in
    ap (λ (j : ℕ). bits_from os i j) none ∙ ap (λ (j : ℕ). bits_from os j n) here
bits-more os i (suc m) n =
    let count : suc m + n ≡ suc (m + n) = omega arith in
    let place : i + 1 + m ≡ i + suc m = omega arith in
    ap (λ (j : ℕ). bits_from os i j) count ∙ ap (λ bits. bit_at os i ∷ bits)
    (bits-more os (i + 1) m n ∙ ap (λ (j : ℕ). bits_from os (i + 1) m ++ bits_from os j n) place)

pub length-from : (os : List ℕ) (i n : ℕ) → length (bits_from os i n) ≡ n
unfolding bits_from
length-from os i zero = refl
length-from os i (suc n) = ap suc (length-from os (i + 1) n)

-- those of one octet, from its bit k on
pub bits-in : (os : List ℕ) (q k i m : ℕ) → i ≡ 8 * q + k → k + m ≤ 8 →
    bits_of m (slice_index os q / 2 ^ k) ≡ bits_from os i m
unfolding bits_of bits_from
bits-in os q k i zero place within = refl
bits-in os q k i (suc m) place within =
    let octet : i / 8 ≡ q = omega (arith, place, within) in
    let bit : i % 8 ≡ k = omega (arith, place, within) in
    let next : i + 1 ≡ 8 * q + (k + 1) = omega (arith, place) in
    let room : k + 1 + m ≤ 8 = omega (arith, within) in
    let head : (slice_index os q / 2 ^ k % 2 == 1) ≡ bit_at os i = rw (octet, bit) refl in
    let tail : bits_of m (slice_index os q / 2 ^ k / 2) ≡ bits_from os (i + 1) m =
    ap (bits_of m) (shr-shr (slice_index os q) k 1) ∙ bits-in os q (k + 1) (i + 1) m next room in
    rw (head, tail) refl

-- so many of them
pub bits-taken : (os : List ℕ) (i n m : ℕ) → m ≤ n → take m (bits_from os i n) ≡ bits_from os i m
unfolding bits_from
bits-taken os i n zero fewer = refl
bits-taken os i zero (suc m) fewer = absurd (omega (arith, fewer))
bits-taken os i (suc n) (suc m) fewer = rw (bits-taken os (i + 1) n m (omega (arith, fewer))) refl
