-- A bit of each of some octets, by lanes.
use Rattle.std.proofs.Common.{◌≡◌, ℕ, zero, suc, ◌+◌, ◌*◌, ◌/◌, ◌%◌, ◌^◌, ◌<◌, ◌==◌, Bool, true, false, List, [], ◌∷◌}
use Rattle.std.proofs.Common.{length, map, replicate, eqb, cond, refl, sym, ap, ◌∙◌, arith, w8, inl, inr}
use Rattle.std.specs.Prelude.{bit_and, slice_index}
use Rattle.std.specs.Int.{bit_at}
use Rattle.std.proofs.lemmas.Simd.{bitmask_splat, zip2_splat}
use Rattle.std.proofs.lemmas.Nat.{one_shl, pow_pos}
use Rattle.std.proofs.lemmas.Nat.Bits.{and_pow, bit_at_lowest, bit_at-suc, bit_at-lt}
use Rattle.std.proofs.lemmas.Bool.{cases_lt}
use Rattle.std.proofs.lemmas.List.{length-map}
use lib.Lanes.{mask_l, top, zip2}
use Rattle.bus_tap.specs.Blocks.{has_bit}
use Rattle.bus_tap.proofs.OnesLemmas.{no-bit, one-bit, same-bit}

-- the bits of a mask
first-mark : (b : Bool) (ms : List Bool) → has_bit (mask_l (b ∷ ms)) 0 ≡ b
first-mark true ms = one-bit (1 + 2 * mask_l ms) 0 (omega (arith, bit_at_lowest (1 + 2 * mask_l ms)))
first-mark false ms = no-bit (0 + 2 * mask_l ms) 0 (omega (arith, bit_at_lowest (0 + 2 * mask_l ms)))

next-mark : (b : Bool) (ms : List Bool) (i : ℕ) → has_bit (mask_l (b ∷ ms)) (suc i) ≡ has_bit (mask_l ms) i
next-mark true ms i =
    same-bit (1 + 2 * mask_l ms) (mask_l ms) (suc i) i
    (bit_at-suc (1 + 2 * mask_l ms) i ∙ ap (λ n. bit_at n i) (omega arith))
next-mark false ms i =
    same-bit (0 + 2 * mask_l ms) (mask_l ms) (suc i) i
    (bit_at-suc (0 + 2 * mask_l ms) i ∙ ap (λ n. bit_at n i) (omega arith))

marks-are : (p : ℕ → Bool) (os : List ℕ) (i : ℕ) → i < length os → has_bit (mask_l (map p os)) i ≡ p (slice_index os i)
marks-are p [] i inside = absurd (omega (arith, inside))
marks-are p (o ∷ os) zero inside = first-mark (p o) (map p os)
marks-are p (o ∷ os) (suc i) inside = next-mark (p o) (map p os) i ∙ marks-are p os i (omega (arith, inside))

-- an octet with a bit alone
alone-bit : (o k : ℕ) → eqb (bit_and o (2 ^ k)) (2 ^ k) ≡ (o / 2 ^ k % 2 == 1)
alone-bit o k = ap (λ n. eqb n (2 ^ k)) (and_pow o k) ∙ elim (cases_lt (bit_at o k) 1) [
  | inl none ↦
      (let is : bit_at o k ≡ 0 = omega (arith, none) in
      ap (λ d. eqb (d * 2 ^ k) (2 ^ k)) is ∙ (other (2 ^ k) (pow_pos k) ∙ sym (no-bit o k is)))
  | inr one ↦
      (let is : bit_at o k ≡ 1 = omega (arith, one, bit_at-lt o k) in
      ap (λ d. eqb (d * 2 ^ k) (2 ^ k)) is ∙ (same (2 ^ k) ∙ sym (one-bit o k is)))
]
  where
    other : (n : ℕ) → 0 < n → eqb (0 * n) n ≡ false
    other n some = grind (arith, some)

    same : (n : ℕ) → eqb (1 * n) n ≡ true
    same n = grind arith

pub bits-are : (os : List ℕ) (k i : ℕ) → length os ≡ 64 → k < 8 → i < 64 →
    has_bit (mask_l (map (top 7) (zip2 (λ a b. cond (eqb a b) 255 0)
    (zip2 bit_and os (replicate 64 (1 * 2 ^ k % 256))) (replicate 64 (1 * 2 ^ k % 256)))) % 2 ^ 64) i
    ≡ (slice_index os i / 2 ^ k % 2 == 1)
bits-are os k i long few inside =
    let mask : 1 * 2 ^ k % 256 ≡ 2 ^ k = one_shl k 8 few in
    let found = map (λ (o : ℕ). bit_and o (2 ^ k)) os in
    let size : length found ≡ 64 = length-map os (λ (o : ℕ). bit_and o (2 ^ k)) ∙ long in
    rw (mask, zip2_splat bit_and os 64 (2 ^ k) long)
    (ap (λ w. has_bit w i) (bitmask_splat w8 eqb found 64 (2 ^ k) size (omega arith))
    ∙ (marks-are (λ o. eqb o (2 ^ k)) found i (omega (arith, size, inside))
    ∙ (ap (λ o. eqb o (2 ^ k)) (found-at os i (omega (arith, long, inside))) ∙ alone-bit (slice_index os i) k)))
  where
    found-at : (os : List ℕ) (i : ℕ) → i < length os →
        slice_index (map (λ (o : ℕ). bit_and o (2 ^ k)) os) i ≡ bit_and (slice_index os i) (2 ^ k)
    found-at [] i inside = absurd (omega (arith, inside))
    found-at (o ∷ os) zero inside = refl
    found-at (o ∷ os) (suc i) inside = found-at os i (omega (arith, inside))
