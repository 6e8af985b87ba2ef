-- A bit of each of some octets, as a word.
use Rattle.std.proofs.Common.{◌≡◌, ℕ, zero, suc, ◌+◌, ◌-◌, ◌*◌, ◌/◌, ◌%◌, ◌^◌, ◌<◌, ◌≤◌, ◌==◌, Bool, true, false}
use Rattle.std.proofs.Common.{List, [], ◌∷◌, length, map, cond, inl, inr, refl, sym, ap, ◌∙◌, arith}
use Rattle.std.specs.Prelude.{bit_and, slice_index}
use Rattle.std.specs.Int.{bit_at}
use Rattle.std.specs.List.{All}
use Rattle.std.proofs.Math.Nat.{mul_assoc, pow-le-pow_right, pow-suc}
use Rattle.std.proofs.Math.Pow.{pow_mono}
use Rattle.std.proofs.lemmas.Nat.Bits.{and_pow, bit_at_cat_high, bit_at_cat_low, bit_at_lowest, bit_at-suc}
use Rattle.std.proofs.lemmas.Bool.{cases_lt, eqb-true}
use Rattle.bus_bits.specs.Octet.{number}
use Rattle.bus_bits.proofs.ProductLemmas.{copies, gathered, gathered-is, upto, upto-all, word-and}
use Rattle.bus_bits.proofs.WordLemmas.{eight, eight-items, eight-small, word}
use Rattle.bus_tap.specs.Blocks.{has_bit}
use Rattle.bus_tap.proofs.OnesLemmas.{bit-is, no-bit, one-bit, same-bit}

-- the bits of a number
first-bit : (b : Bool) (d : List Bool) → has_bit (number (b ∷ d)) 0 ≡ b
unfolding number
first-bit true d = one-bit (number d * 2 + 1) 0 (omega (arith, bit_at_lowest (number d * 2 + 1)))
first-bit false d = no-bit (number d * 2 + 0) 0 (omega (arith, bit_at_lowest (number d * 2 + 0)))

next-bit : (b : Bool) (d : List Bool) (i : ℕ) → has_bit (number (b ∷ d)) (suc i) ≡ has_bit (number d) i
unfolding number
next-bit true d i =
    same-bit (number d * 2 + 1) (number d) (suc i) i
    (bit_at-suc (number d * 2 + 1) i ∙ ap (λ n. bit_at n i) (omega arith))
next-bit false d i =
    same-bit (number d * 2 + 0) (number d) (suc i) i
    (bit_at-suc (number d * 2 + 0) i ∙ ap (λ n. bit_at n i) (omega arith))

number-of : (p : ℕ → Bool) (os : List ℕ) (i : ℕ) → i < length os →
    has_bit (number (map p os)) i ≡ p (slice_index os i)
number-of p [] i inside = absurd (omega (arith, inside))
number-of p (o ∷ os) zero inside = first-bit (p o) (map p os)
number-of p (o ∷ os) (suc i) inside = next-bit (p o) (map p os) i ∙ number-of p os i (omega (arith, inside))

-- octets with one bit alone
alone : (k : ℕ) (os : List ℕ) → word (map (λ o. bit_and o (2 ^ k)) os)
    ≡ word (map (λ b. cond b 1 0) (map (λ o. has_bit o k) os)) * 2 ^ k
unfolding word
alone k [] = omega arith
alone k (o ∷ os) =
    rw (alone k os, and_pow o k ∙ ap (λ n. n * 2 ^ k) (bit-is o k)) (grind arith)

-- for each bit a mask, and a factor that brings it to the lowest
masks : ℕ → Bool
masks k = 72340172838076673 * 2 ^ k % 18446744073709551616 == copies (2 ^ k) 8

all-masks : upto masks 8 ≡ true
unfolding upto masks copies
all-masks = refl

factors : ℕ → Bool
factors k = 2 ^ k * (72624976668147840 / 2 ^ k) == 72624976668147840

all-factors : upto factors 8 ≡ true
unfolding upto factors
all-factors = refl

-- the product has the bit of each of eight octets
pub eight-bits : (all : List ℕ) (q k i : ℕ) → ((i : ℕ) → slice_index all i < 256) → k < 8 → i < 8 →
    has_bit (bit_and (word (eight all q)) (72340172838076673 * 2 ^ k % 18446744073709551616)
    * (72624976668147840 / 2 ^ k) % 18446744073709551616 / 72057594037927936) i
    ≡ has_bit (slice_index all (q + i)) k
unfolding masks factors
eight-bits all q k i small few inside =
    let os = eight all q in
    let g : ℕ = 72624976668147840 in
    let ys = map (λ o. has_bit o k) os in
    let one : ℕ = word (map (λ b. cond b 1 0) ys) in
    let mask : 72340172838076673 * 2 ^ k % 18446744073709551616 ≡ copies (2 ^ k) 8 =
    eqb-true _ _ (upto-all masks 8 all-masks k few) in
    let factor : 2 ^ k * (g / 2 ^ k) ≡ g = eqb-true _ _ (upto-all factors 8 all-factors k few) in
    let low : 2 ^ k < 256 = omega (arith, pow_mono few) in
    let found : bit_and (word os) (copies (2 ^ k) 8) ≡ one * 2 ^ k =
    word-and (2 ^ k) os low (eight-small all q small) ∙ alone k os in
    let product : one * 2 ^ k * (g / 2 ^ k) ≡ one * g = mul_assoc one (2 ^ k) (g / 2 ^ k) ∙ ap (λ n. one * n) factor in
    rw (mask, found, product)
    (ap (λ n. has_bit n i) (gathered-is ys refl)
    ∙ (number-of (λ o. has_bit o k) os i inside ∙ ap (λ o. has_bit o k) (eight-items all q i inside)))

-- seven eights leave room for one more
pub few-eights : (n : ℕ) → n < 8 → 256 ^ n ≤ 256 ^ 7
few-eights n few = pow-le-pow_right {n = 256} (omega arith) {i = n} {j = 7} (omega (arith, few))

-- eight bits before those of a word
pub eight-before : (p : ℕ → Bool) (word eight n : ℕ) → n ≤ 7 → word < 256 ^ n → eight < 256 →
    ((i : ℕ) → i < 8 * n → has_bit word i ≡ p (64 - 8 * n + i)) →
    ((i : ℕ) → i < 8 → has_bit eight i ≡ p (56 - 8 * n + i)) →
    (word * 256 + eight < 256 ^ (n + 1))
    × ((i : ℕ) → i < 8 * (n + 1) → has_bit (word * 256 + eight) i ≡ p (64 - 8 * (n + 1) + i))
eight-before p word eight n few fits low behind first =
    let next : n + 1 ≡ suc n = omega arith in (
      omega (arith, ap (λ k. 256 ^ k) next ∙ pow-suc 256 n, fits, low),
      λ i inside. elim (cases_lt i 8) [
        | inl front ↦ same-bit _ eight i i (bit_at_cat_low word 8 eight i front)
            ∙ (first i front ∙ ap p (omega (arith, few)))
        | inr back ↦ same-bit _ word i (i - 8) (bit_at_cat_high word 8 eight i low back)
            ∙ (behind (i - 8) (omega (arith, inside, back)) ∙ ap p (omega (arith, few, back)))
      ],
    )
