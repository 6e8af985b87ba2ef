-- The carries of a sum, by their places.
use Rattle.std.proofs.Common.{◌≡◌, ℕ, zero, suc, ◌+◌, ◌*◌, ◌/◌, ◌%◌, ◌^◌, ◌<◌, ◌≤◌}
use Rattle.std.proofs.Common.{sym, ap, ◌∙◌, arith}
use Rattle.std.specs.Prelude.{bit_and, bit_or, bit_xor}
use Rattle.std.specs.Int.{bit_at}
use Rattle.std.proofs.lemmas.Nat.{shr-shr}
use Rattle.std.proofs.Math.Nat.{div-one}
use Rattle.std.proofs.lemmas.Nat.Bits.{bit_at_and, bit_at_or, bit_at_xor, bit_at-lt, bit_at_above}
use Rattle.std.proofs.lemmas.Nat.Bits.{bit_at_lowest, bit_at-suc}
use Rattle.bus_tap.proofs.OnesLemmas.{bit_low}

-- what is carried into place `i` of a sum
abbrev pub carry : ℕ → ℕ → ℕ → ℕ → ℕ
carry x p c zero = c
carry x p c (suc i) = (bit_at x i + bit_at p i + carry x p c i) / 2

module _ (x p c : ℕ) (small : c ≤ 1) where
  carry-small : (i : ℕ) → carry x p c i ≤ 1
  carry-small zero = small
  carry-small (suc i) = omega (arith, carry-small i, bit_at-lt x i, bit_at-lt p i)

  half : (n i : ℕ) → n / 2 ^ suc i ≡ n / 2 ^ i / 2
  half n i = let next : suc i ≡ i + 1 = omega arith in ap (λ j. n / 2 ^ j) next ∙ sym (shr-shr n i 1)

  sum-above : (i : ℕ) → (x + p + c) / 2 ^ i ≡ x / 2 ^ i + p / 2 ^ i + carry x p c i
  sum-above zero = omega (arith, div-one x, div-one p, div-one (x + p + c))
  sum-above (suc i) =
      half (x + p + c) i ∙ (ap (λ n. n / 2) (sum-above i) ∙ omega (arith, half x i, half p i))

  sum-bit : (i : ℕ) → bit_at (x + p + c) i ≡ (bit_at x i + bit_at p i + carry x p c i) % 2
  sum-bit i = ap (λ n. n % 2) (sum-above i) ∙ omega arith

  -- the carries are what the sum without carries lacks
  pub carry-bit : (i : ℕ) → i < 64 →
      bit_at (bit_xor (bit_xor (((x + p) % 2 ^ 64 + c) % 2 ^ 64) x) p) i ≡ carry x p c i
  carry-bit i inside =
      let sum = ((x + p) % 2 ^ 64 + c) % 2 ^ 64 in
      let whole : sum ≡ (x + p + c) % 2 ^ 64 = omega arith in
      let one : bit_at sum i ≡ (bit_at x i + bit_at p i + carry x p c i) % 2 =
      ap (λ n. bit_at n i) whole ∙ (bit_low (x + p + c) 64 i inside ∙ sum-bit i) in
      bit_at_xor (bit_xor sum x) p i
      ∙ omega (arith, bit_at_xor sum x i, one, carry-small i, bit_at-lt x i, bit_at-lt p i)

  -- and two of three make the next one
  pub next-bit : (b i : ℕ) → bit_at b i ≡ carry x p c i →
      bit_at (bit_or (bit_and x p) (bit_and b (bit_or x p))) i ≡ carry x p c (suc i)
  next-bit b i is =
      bit_at_or (bit_and x p) (bit_and b (bit_or x p)) i
      ∙ omega (
        arith,
        bit_at_and x p i,
        bit_at_and b (bit_or x p) i,
        bit_at_or x p i,
        is,
        carry-small i,
        bit_at-lt x i,
        bit_at-lt p i,
      )

-- levels a sample earlier
pub earlier-first : (x l : ℕ) → l ≤ 1 → bit_at (bit_or (x * 2 ^ 1 % 2 ^ 64) l) 0 ≡ l
earlier-first x l small =
    bit_at_or (x * 2 ^ 1 % 2 ^ 64) l 0
    ∙ omega (arith, bit_at_lowest (x * 2 ^ 1 % 2 ^ 64), bit_at_lowest l)

pub earlier-next : (x l i : ℕ) → l ≤ 1 → suc i < 64 → bit_at (bit_or (x * 2 ^ 1 % 2 ^ 64) l) (suc i) ≡ bit_at x i
earlier-next x l i small inside =
    let one : bit_at (x * 2 ^ 1) (suc i) ≡ bit_at x i =
    bit_at-suc (x * 2 ^ 1) i ∙ ap (λ n. bit_at n i) (omega arith) in
    bit_at_or (x * 2 ^ 1 % 2 ^ 64) l (suc i)
    ∙ omega (
      arith,
      bit_low (x * 2 ^ 1) 64 (suc i) inside,
      one,
      bit_at_above l 1 (suc i) (omega (arith, small)) (omega arith),
    )
