-- Pairs of bits in one number, parted into two.
use Rattle.std.proofs.Common.{◌≡◌, ℕ, zero, suc, ◌+◌, ◌*◌, ◌/◌, ◌%◌, ◌^◌, ◌<◌, ◌≤◌, ◌==◌, inl, inr, Bool, true, false}
use Rattle.std.proofs.Common.{nat_lt, cond, bit_and, bit_or, refl, sym, ap, ◌∙◌, subst}
use Rattle.std.proofs.Common.{arith, min, max}
use Rattle.std.proofs.lemmas.Bool.Decides.{nat_tests}
use Rattle.std.proofs.lemmas.Bool.{eqb-true}
use Rattle.std.proofs.lemmas.Nat.Bits.{bit_at_and, bit_at_or, bit_at_lowest, bit_at-suc, bit_at_above, bit_at-lt}
use Rattle.std.proofs.lemmas.Nat.{shr-shr, and_le_r}
use Rattle.std.specs.Int.{bit_at}
use Rattle.std.specs.Prelude.{zip}
use Rattle.bus_bits.specs.Octet.{bits_of}
use Rattle.bus_formats.specs.Packed.{in_pairs}
use Rattle.bus_bits.proofs.CaseLemmas.{le_or_lt}
use Rattle.bus_bits.proofs.ProductLemmas.{upto, upto-all}

-- ---- bits at even places

-- of each 2 * b bits of x the lowest b are those of w at even places, and the others are 0
record IsSpread (b c w x : ℕ) : Type 0 where
  kept : (i : ℕ) → i % c < b → bit_at x i ≡ bit_at w (i + i % c)
  cleared : (i : ℕ) → b ≤ i % c → bit_at x i ≡ 0

-- c is 2 * b, d is 4 * b, and m has the lowest c of each d bits
record IsStep (b c d m : ℕ) : Type 0 where
  low : (i : ℕ) → i % d < b → (i % c ≡ i % d) × (b ≤ (i + b) % c)
  high : (i : ℕ) → b ≤ i % d → i % d < c → (b ≤ i % c) × ((i + b) % c < b) × (i + b + (i + b) % c ≡ i + i % d)
  inside : (i : ℕ) → i < 64 → i % d < c → bit_at m i ≡ 1
  outside : (i : ℕ) → i < 64 → c ≤ i % d → bit_at m i ≡ 0

shifted_at : (x b i : ℕ) → bit_at (x / 2 ^ b) i ≡ bit_at x (i + b)
shifted_at x b i =
    let sum : b + i ≡ i + b = omega arith in ap (λ (n : ℕ). n % 2) (shr-shr x b i) ∙ ap (bit_at x) sum

-- a bit of those that are joined with the ones b places higher, and masked
joined_at : (x b m i : ℕ) →
    bit_at (bit_and (bit_or x (x / 2 ^ b)) m) i ≡ min (max (bit_at x i) (bit_at x (i + b))) (bit_at m i)
joined_at x b m i =
    bit_at_and (bit_or x (x / 2 ^ b)) m i ∙ rw (bit_at_or x (x / 2 ^ b) i, shifted_at x b i) refl

-- bits are joined with those b places higher
spread-more : (b c d m w x : ℕ) → b ≤ c → c ≤ d → w < 2 ^ 64 → x < 2 ^ 64 → IsStep b c d m → IsSpread b c w x →
    IsSpread c d w (bit_and (bit_or x (x / 2 ^ b)) m)
spread-more b c d m w x fewer few fits below step spread = record {
  kept = λ i inside. elim (le_or_lt 64 i) [
    | inl far ↦ omega (
      arith,
      joined_at x b m i,
      bit_at_above x 64 i below far,
      bit_at_above x 64 (i + b) below (omega (arith, far)),
      bit_at_above w 64 (i + i % d) fits (omega (arith, far)),
    )
    | inr near ↦ let mask = step.inside i near inside in
        elim (le_or_lt b (i % d)) [
          | inr under ↦ let places = step.low i under in
              let one = spread.kept i (omega (arith, places.0, under)) in
              let none = spread.cleared (i + b) places.1 in
              let same-place : i + i % c ≡ i + i % d = omega (arith, places.0) in
              omega (arith, joined_at x b m i, mask, one, none, ap (bit_at w) same-place, bit_at-lt w (i + i % d))
          | inl over ↦ let places = step.high i over inside in
              let none = spread.cleared i places.0 in
              let one = spread.kept (i + b) places.1 in
              omega (arith, joined_at x b m i, mask, one, none, ap (bit_at w) places.2, bit_at-lt w (i + i % d))
        ]
  ];
  cleared = λ i outside. elim (le_or_lt 64 i) [
    | inl far ↦ omega (
      arith,
      joined_at x b m i,
      bit_at_above x 64 i below far,
      bit_at_above x 64 (i + b) below (omega (arith, far)),
    )
    | inr near ↦ omega (arith, bit_at_and (bit_or x (x / 2 ^ b)) m i, step.outside i near outside)
  ];
}

-- ---- the masks

-- m has the lowest c of each d bits
masks : ℕ → ℕ → ℕ → ℕ → Bool
masks c d m i = bit_at m i == cond (nat_lt (i % d) c) 1 0

mask_inside : (c d m : ℕ) → upto (masks c d m) 64 ≡ true → (i : ℕ) → i < 64 → i % d < c → bit_at m i ≡ 1
unfolding masks
mask_inside c d m all i near inside =
    let shown : nat_lt (i % d) c ≡ true = grind (arith, nat_tests) in
    eqb-true (bit_at m i) (cond (nat_lt (i % d) c) 1 0) (upto-all (masks c d m) 64 all i near)
    ∙ rw shown refl

mask_outside : (c d m : ℕ) → upto (masks c d m) 64 ≡ true → (i : ℕ) → i < 64 → c ≤ i % d → bit_at m i ≡ 0
unfolding masks
mask_outside c d m all i near outside =
    let shown : nat_lt (i % d) c ≡ false = grind (arith, nat_tests) in
    eqb-true (bit_at m i) (cond (nat_lt (i % d) c) 1 0) (upto-all (masks c d m) 64 all i near)
    ∙ rw shown refl

mask-1 : upto (masks 1 2 6148914691236517205) 64 ≡ true
unfolding upto masks
mask-1 = refl

mask-2 : upto (masks 2 4 3689348814741910323) 64 ≡ true
unfolding upto masks
mask-2 = refl

mask-4 : upto (masks 4 8 1085102592571150095) 64 ≡ true
unfolding upto masks
mask-4 = refl

mask-8 : upto (masks 8 16 71777214294589695) 64 ≡ true
unfolding upto masks
mask-8 = refl

mask-16 : upto (masks 16 32 281470681808895) 64 ≡ true
unfolding upto masks
mask-16 = refl

mask-32 : upto (masks 32 64 4294967295) 64 ≡ true
unfolding upto masks
mask-32 = refl

step-2 : IsStep 1 2 4 3689348814741910323
step-2 = record {
  low = λ i under. (omega (arith, under), omega (arith, under));
  high = λ i over under. (omega (arith, over, under), omega (arith, over, under), omega (arith, over, under));
  inside = mask_inside 2 4 3689348814741910323 mask-2;
  outside = mask_outside 2 4 3689348814741910323 mask-2;
}

step-4 : IsStep 2 4 8 1085102592571150095
step-4 = record {
  low = λ i under. (omega (arith, under), omega (arith, under));
  high = λ i over under. (omega (arith, over, under), omega (arith, over, under), omega (arith, over, under));
  inside = mask_inside 4 8 1085102592571150095 mask-4;
  outside = mask_outside 4 8 1085102592571150095 mask-4;
}

step-8 : IsStep 4 8 16 71777214294589695
step-8 = record {
  low = λ i under. (omega (arith, under), omega (arith, under));
  high = λ i over under. (omega (arith, over, under), omega (arith, over, under), omega (arith, over, under));
  inside = mask_inside 8 16 71777214294589695 mask-8;
  outside = mask_outside 8 16 71777214294589695 mask-8;
}

step-16 : IsStep 8 16 32 281470681808895
step-16 = record {
  low = λ i under. (omega (arith, under), omega (arith, under));
  high = λ i over under. (omega (arith, over, under), omega (arith, over, under), omega (arith, over, under));
  inside = mask_inside 16 32 281470681808895 mask-16;
  outside = mask_outside 16 32 281470681808895 mask-16;
}

step-32 : IsStep 16 32 64 4294967295
step-32 = record {
  low = λ i under. (omega (arith, under), omega (arith, under));
  high = λ i over under. (omega (arith, over, under), omega (arith, over, under), omega (arith, over, under));
  inside = mask_inside 32 64 4294967295 mask-32;
  outside = mask_outside 32 64 4294967295 mask-32;
}

spread-ones : (w : ℕ) → w < 2 ^ 64 → IsSpread 1 2 w (bit_and w 6148914691236517205)
spread-ones w fits = record {
  kept = λ i even-place. elim (le_or_lt 64 i) [
    | inl far ↦ omega (
      arith,
      bit_at_and w 6148914691236517205 i,
      bit_at_above w 64 i fits far,
      bit_at_above w 64 (i + i % 2) fits (omega (arith, far)),
    )
    | inr near ↦ let same-place : i + i % 2 ≡ i = omega (arith, even-place) in
        omega (
          arith,
          bit_at_and w 6148914691236517205 i,
          mask_inside 1 2 6148914691236517205 mask-1 i near even-place,
          bit_at-lt w i,
          ap (bit_at w) same-place,
        )
  ];
  cleared = λ i odd-place. elim (le_or_lt 64 i) [
    | inl far ↦ omega (arith, bit_at_and w 6148914691236517205 i, bit_at_above w 64 i fits far)
    | inr near ↦ omega (
      arith,
      bit_at_and w 6148914691236517205 i,
      mask_outside 1 2 6148914691236517205 mask-1 i near odd-place,
    )
  ];
}

-- the numbers on the way from a word to its even bits
pub record IsEven (w a b c d e f : ℕ) : Type 0 where
  pub fits : w < 2 ^ 64
  pub ones : a ≡ bit_and w 6148914691236517205
  pub twos : b ≡ bit_and (bit_or a (a / 2 ^ 1)) 3689348814741910323
  pub fours : c ≡ bit_and (bit_or b (b / 2 ^ 2)) 1085102592571150095
  pub eights : d ≡ bit_and (bit_or c (c / 2 ^ 4)) 71777214294589695
  pub sixteens : e ≡ bit_and (bit_or d (d / 2 ^ 8)) 281470681808895
  pub all : f ≡ bit_and (bit_or e (e / 2 ^ 16)) 4294967295

masked : (x y m : ℕ) → x ≡ bit_and y m → m < 2 ^ 64 → x < 2 ^ 64
masked x y m is small = omega (arith, is, and_le_r y m, small)

pub even-bits : (w a b c d e f : ℕ) → IsEven w a b c d e f → (i : ℕ) → i < 32 → bit_at f i ≡ bit_at w (2 * i)
even-bits w a b c d e f even =
    let s1 = subst (IsSpread 1 2 w) (sym even.ones) (spread-ones w even.fits) in
    let s2 = subst (IsSpread 2 4 w) (sym even.twos)
    (spread-more 1 2 4 3689348814741910323 w a (omega arith) (omega arith) even.fits
    (masked a w 6148914691236517205 even.ones (omega arith)) step-2 s1) in
    let s4 = subst (IsSpread 4 8 w) (sym even.fours)
    (spread-more 2 4 8 1085102592571150095 w b (omega arith) (omega arith) even.fits
    (masked b (bit_or a (a / 2 ^ 1)) 3689348814741910323 even.twos (omega arith)) step-4 s2) in
    let s8 = subst (IsSpread 8 16 w) (sym even.eights)
    (spread-more 4 8 16 71777214294589695 w c (omega arith) (omega arith) even.fits
    (masked c (bit_or b (b / 2 ^ 2)) 1085102592571150095 even.fours (omega arith)) step-8 s4) in
    let s16 = subst (IsSpread 16 32 w) (sym even.sixteens)
    (spread-more 8 16 32 281470681808895 w d (omega arith) (omega arith) even.fits
    (masked d (bit_or c (c / 2 ^ 4)) 71777214294589695 even.eights (omega arith)) step-16 s8) in
    let s32 = subst (IsSpread 32 64 w) (sym even.all)
    (spread-more 16 32 64 4294967295 w e (omega arith) (omega arith) even.fits
    (masked e (bit_or d (d / 2 ^ 8)) 281470681808895 even.sixteens (omega arith)) step-32 s16) in
    λ i below.
    let twice : i + i % 64 ≡ 2 * i = omega (arith, below) in
    s32.kept i (omega (arith, below)) ∙ ap (bit_at w) twice

-- ---- pairs of two numbers

pub half_at : (n i : ℕ) → bit_at (n / 2) i ≡ bit_at n (i + 1)
half_at n i = let next : suc i ≡ i + 1 = omega arith in sym (bit_at-suc n i) ∙ ap (bit_at n) next

-- the bits of w two by two, where f has those at even places, and s the others
pub parted-bits : (k w f s : ℕ) → ((i : ℕ) → i < k → bit_at f i ≡ bit_at w (2 * i)) →
    ((i : ℕ) → i < k → bit_at s i ≡ bit_at w (2 * i + 1))
    → in_pairs (bits_of (2 * k) w) ≡ zip (bits_of k f) (bits_of k s)
unfolding in_pairs bits_of
parted-bits zero w f s first second = refl
parted-bits (suc k) w f s first second =
    let twice : 2 * suc k ≡ suc (suc (2 * k)) = omega arith in
    let low : w % 2 ≡ f % 2 = omega (arith, first 0 (omega arith), bit_at_lowest f, bit_at_lowest w) in
    let high : w / 2 % 2 ≡ s % 2 =
    omega (arith, second 0 (omega arith), bit_at_lowest s, half_at w 0, bit_at_lowest (w / 2)) in
    let far : (i : ℕ) → bit_at (w / 2 / 2) i ≡ bit_at w (i + 1 + 1) = λ i. half_at (w / 2) i ∙ half_at w (i + 1) in
    let rest = parted-bits k (w / 2 / 2) (f / 2) (s / 2)
    (λ i below. half_at f i ∙ first (i + 1) (omega (arith, below)) ∙ ap (bit_at w) (omega arith) ∙ sym (far (2 * i)))
    (λ i below.
    half_at s i ∙ second (i + 1) (omega (arith, below)) ∙ ap (bit_at w) (omega arith) ∙ sym (far (2 * i + 1))) in
    rw (twice, low, high, rest) refl
