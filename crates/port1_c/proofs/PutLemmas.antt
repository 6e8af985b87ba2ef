-- Bits that are put into octets.
use Rattle.std.proofs.Common.{◌≡◌, ◌≢◌, ℕ, zero, suc, ◌+◌, ◌-◌, ◌*◌, ◌/◌, ◌%◌, ◌^◌, ◌<◌, ◌≤◌, ◌==◌, ◌⊎◌, Bool}
use Rattle.std.proofs.Common.{true, false, List, [], ◌∷◌, ◌++◌, length, max, min, replicate, cond, inl, inr, refl, sym}
use Rattle.std.proofs.Common.{ap, ◌∙◌, arith, w8}
use Rattle.std.specs.Prelude.{bit_and, bit_or, slice_index, slice_set}
use Rattle.std.specs.Int.{bit_not, from_le_bytes, w16}
use Rattle.std.specs.Int.Bits.{or_zero_r}
use Rattle.std.proofs.lemmas.Bool.{cases_eq, cases_lt}
use Rattle.std.proofs.lemmas.List.{get_or-set_other, get_or-set_same, length-set}
use Rattle.std.proofs.lemmas.Nat.{and_le_l, pow_pos, shr-shr, shr_split}
use Rattle.std.proofs.lemmas.Nat.Bits.{bit_at-lt, bit_at-zero, bit_at_and, bit_at_cat_high, bit_at_cat_low}
use Rattle.std.proofs.lemmas.Nat.Bits.{bit_at_mask_below, bit_at_mask_inside, bit_at_not, bit_at_ones}
use Rattle.std.proofs.lemmas.Nat.Bits.{bit_at_ones_above, bit_at_or, bit_at_set_other, bit_at_set_same, ones_shl}
use Rattle.std.proofs.lemmas.Nat.Bits.{ones_shr}
use mir.Val.{bool_byte}
use Rattle.bus_bits.specs.Bits.{bit_at, bits_from}
use Rattle.port1_c.specs.Bits.{CopiesBits, PutsBits}
use Rattle.bus_bits.proofs.BitLemmas.{bits-more, length-from}

-- bits that are alike
bits-alike : (os ps : List ℕ) (i k n : ℕ) → ((j : ℕ) → j < n → bit_at os (i + j) ≡ bit_at ps (k + j)) →
    bits_from os i n ≡ bits_from ps k n
unfolding bits_from
bits-alike os ps i k zero alike = refl
bits-alike os ps i k (suc n) alike =
    let here : i + 0 ≡ i = omega arith in
    let there : k + 0 ≡ k = omega arith in
    ap (λ b. b ∷ bits_from os (i + 1) n) (rw (here, there) at (alike 0 (omega arith)))
    ∙ ap (λ bits. bit_at ps k ∷ bits) (bits-alike os ps (i + 1) (k + 1) n (λ j l.
    let next : i + (j + 1) ≡ i + 1 + j = omega arith in
    let behind : k + (j + 1) ≡ k + 1 + j = omega arith in
    rw (next, behind) at (alike (j + 1) (omega (arith, l)))))

-- the bit after some
bits-next : (os : List ℕ) (i n : ℕ) → bits_from os i (n + 1) ≡ bits_from os i n ++ bit_at os (i + n) ∷ []
unfolding bits_from
bits-next os i n = bits-more os i n 1

-- a bit put in after some
pub bits-pushed : (os ps : List ℕ) (n : ℕ) (bit : Bool) → bit_at ps n ≡ bit →
    ((j : ℕ) → j ≢ n → bit_at ps j ≡ bit_at os j) → bits_from ps 0 (n + 1) ≡ bits_from os 0 n ++ bit ∷ []
bits-pushed os ps n bit is kept =
    let here : 0 + n ≡ n = omega arith in
    bits-next ps 0 n ∙ ap (λ (j : ℕ). bits_from ps 0 n ++ bit_at ps j ∷ []) here
    ∙ ap (λ b. bits_from ps 0 n ++ b ∷ []) is
    ∙ ap (λ bits. bits ++ bit ∷ []) (bits-alike ps os 0 0 n (λ j l. kept (0 + j) (λ f. omega (arith, f, l))))

-- no bit is set yet
zeros : (n q : ℕ) → slice_index (replicate n 0) q ≡ 0
zeros zero q = refl
zeros (suc n) zero = refl
zeros (suc n) (suc q) = zeros n q

pub all-clear : (n i : ℕ) → bit_at (replicate n 0) i ≡ false
all-clear n i =
    ap (λ (o : ℕ). o / 2 ^ (i % 8) % 2 == 1) (zeros n (i / 8)) ∙ ap (λ (b : ℕ). b == 1) (bit_at-zero (i % 8))

-- ---- bits that are copied

-- some, and those after them
pub copies-then : (old mid new source : List ℕ) (at first m n all : ℕ) → all ≡ m + n →
    CopiesBits old at source first m mid → CopiesBits mid (at + m) source (first + m) n new →
    CopiesBits old at source first all new
copies-then old mid new source at first m n all sum some more = record {
  long = more.long ∙ some.long;
  put = λ i few. elim (cases_lt i m) [
    | inl less ↦ more.kept (at + i) (inl (omega (arith, less))) ∙ some.put i less
    | inr past ↦
        (let here : at + m + (i - m) ≡ at + i = omega (arith, past) in
        let there : first + m + (i - m) ≡ first + i = omega (arith, past) in
        rw (here, there) at (more.put (i - m) (omega (arith, sum, few, past))))
  ];
  kept = λ i out. elim out [
    | inl before ↦ more.kept i (inl (omega (arith, before))) ∙ some.kept i (inl before)
    | inr behind ↦ more.kept i (inr (omega (arith, sum, behind))) ∙ some.kept i (inr (omega (arith, sum, behind)))
  ];
}

pub copies-puts : (old new source : List ℕ) (at first n : ℕ) → CopiesBits old at source first n new →
    PutsBits old at (bits_from source first n) new
copies-puts old new source at first n c =
    let count : length (bits_from source first n) ≡ n = length-from source first n in
    record {
      long = c.long;
      put = ap (bits_from new at) count ∙ bits-alike new source at first n c.put;
      before = λ i before. c.kept i (inl before);
      behind = λ i behind. c.kept i (inr (omega (arith, count, behind)));
    }

-- those of one octet
pub copies-in : (os source : List ℕ) (at q low first count v : ℕ) → at ≡ 8 * q + low → q < length os →
    low + count ≤ 8 → ((i : ℕ) → i < count → (v / 2 ^ (low + i) % 2 == 1) ≡ bit_at source (first + i)) →
    ((i : ℕ) → i < 8 → (i < low) ⊎ (low + count ≤ i) → v / 2 ^ i % 2 ≡ slice_index os q / 2 ^ i % 2) →
    CopiesBits os at source first count (slice_set os q v)
copies-in os source at q low first count v place inside one put kept =
    let same : slice_index (slice_set os q v) q ≡ v = get_or-set_same os q v 0 inside in
    record {
      long = length-set os q v;
      put = λ i few.
          let octet : (at + i) / 8 ≡ q = omega (arith, place, one, few) in
          let bit : (at + i) % 8 ≡ low + i = omega (arith, place, one, few) in
          rw (octet, bit, same) (put i few);
      kept = λ i out. elim (cases_eq (i / 8) q) [
        | inl here ↦
            rw (here, same) (ap (λ (b : ℕ). b == 1) (kept (i % 8) (omega arith) (elim out [
              | inl before ↦ inl (omega (arith, place, here, before))
              | inr behind ↦ inr (omega (arith, place, here, behind))
            ])))
        | inr other ↦ ap (λ (o : ℕ). o / 2 ^ (i % 8) % 2 == 1) (get_or-set_other os q (i / 8) v 0 other)
      ];
    }

-- ---- bits of one octet

-- a bit where a 0 was
pub bit-set : (o at : ℕ) (bit : Bool) → at < 8 → o / 2 ^ at % 2 ≡ 0 →
    bit_or o (bool_byte bit * 2 ^ at % 2 ^ 8) / 2 ^ at % 2 ≡ cond bit 1 0
bit-set o at true within clear = bit_at_set_same w8 o at within
bit-set o at false within clear =
    let none : bool_byte false * 2 ^ at % 2 ^ 8 ≡ 0 = omega arith in
    rw (none, or_zero_r o) clear

pub bit-kept : (o at : ℕ) (bit : Bool) → at < 8 → (i : ℕ) → i ≢ at →
    bit_or o (bool_byte bit * 2 ^ at % 2 ^ 8) / 2 ^ i % 2 ≡ o / 2 ^ i % 2
bit-kept o at true within i other = bit_at_set_other w8 o at within i other
bit-kept o at false within i other =
    let none : bool_byte false * 2 ^ at % 2 ^ 8 ≡ 0 = omega arith in
    rw (none, or_zero_r o) refl

-- eight bits of two octets
pub eight-of : (os : List ℕ) (at two : ℕ) → at + 8 < 8 * length os → ((i : ℕ) → slice_index os i < 256) →
    two ≡ from_le_bytes w16 (slice_index os (at / 8) ∷ slice_index os (at / 8 + 1) ∷ []) →
    (i : ℕ) → i < 8 → (bit_and (two / 2 ^ (at % 8)) 255 / 2 ^ i % 2 == 1) ≡ bit_at os (at + i)
eight-of os at two inside octets is i few =
    let k = at % 8 in
    let low = slice_index os (at / 8) in
    let high = slice_index os (at / 8 + 1) in
    let value : two ≡ high * 2 ^ 8 + low = is ∙ omega arith in
    let bit : bit_and (two / 2 ^ k) 255 / 2 ^ i % 2 ≡ (high * 2 ^ 8 + low) / 2 ^ (k + i) % 2 =
    bit_at_and (two / 2 ^ k) 255 i
    ∙ rw (bit_at_ones 8 i few) (omega (arith, bit_at-lt (two / 2 ^ k) i))
    ∙ ap (λ (n : ℕ). n % 2) (shr-shr two k i)
    ∙ ap (λ (n : ℕ). n / 2 ^ (k + i) % 2) value in
    elim (cases_lt (k + i) 8) [
      | inl first ↦
          (let octet : (at + i) / 8 ≡ at / 8 = omega (arith, first) in
          let place : (at + i) % 8 ≡ k + i = omega (arith, first) in
          rw (octet, place) (ap (λ (b : ℕ). b == 1) (bit ∙ bit_at_cat_low high 8 low (k + i) first)))
      | inr second ↦
          (let octet : (at + i) / 8 ≡ at / 8 + 1 = omega (arith, second, few) in
          let place : (at + i) % 8 ≡ k + i - 8 = omega (arith, second, few) in
          rw (octet, place)
          (ap (λ (b : ℕ). b == 1) (bit ∙ bit_at_cat_high high 8 low (k + i) (octets (at / 8)) second)))
    ]

-- ones at the places of some bits
abbrev pub bits_mask : ℕ → ℕ → ℕ
bits_mask at count = bit_and (255 * 2 ^ at % 2 ^ 8) (255 / 2 ^ (8 - at - count))

module _ (at count : ℕ) (within : at + count ≤ 8) where
  mask-is : bits_mask at count ≡ bit_and (2 ^ 8 - 2 ^ at) (2 ^ (at + count) - 1)
  mask-is =
      let high : 255 * 2 ^ at % 2 ^ 8 ≡ 2 ^ 8 - 2 ^ at = ones_shl 8 at (omega (arith, within)) in
      let places : 8 - (8 - at - count) ≡ at + count = omega (arith, within) in
      let low : 255 / 2 ^ (8 - at - count) ≡ 2 ^ (at + count) - 1 =
      ones_shr 8 (8 - at - count) (omega arith) ∙ ap (λ (n : ℕ). 2 ^ n - 1) places in
      rw (high, low) refl

  mask-inside : (i : ℕ) → at ≤ i → i < at + count → bits_mask at count / 2 ^ i % 2 ≡ 1
  mask-inside i from below =
      ap (λ (m : ℕ). m / 2 ^ i % 2) mask-is ∙ bit_at_and (2 ^ 8 - 2 ^ at) (2 ^ (at + count) - 1) i
      ∙ rw (bit_at_mask_inside at 8 i from (omega (arith, below, within)), bit_at_ones (at + count) i below) refl

  mask-outside : (i : ℕ) → (i < at) ⊎ (at + count ≤ i) → bits_mask at count / 2 ^ i % 2 ≡ 0
  mask-outside i out =
      ap (λ (m : ℕ). m / 2 ^ i % 2) mask-is ∙ bit_at_and (2 ^ 8 - 2 ^ at) (2 ^ (at + count) - 1) i
      ∙ elim out [
        | inl before ↦ rw (bit_at_mask_below at 8 i before) (omega arith)
        | inr behind ↦ rw (bit_at_ones_above (at + count) i behind) (omega arith)
      ]

  -- which of two octets a bit comes from
  picked : (o s i : ℕ) → i < 8 →
      bit_or (bit_and o (bit_not w8 (bits_mask at count))) (bit_and s (bits_mask at count)) / 2 ^ i % 2
      ≡ max (min (o / 2 ^ i % 2) (1 - bits_mask at count / 2 ^ i % 2))
      (min (s / 2 ^ i % 2) (bits_mask at count / 2 ^ i % 2))
  picked o s i few =
      let m = bits_mask at count in
      let small : m < 2 ^ 8 =
      omega (arith, and_le_l (255 * 2 ^ at % 2 ^ 8) (255 / 2 ^ (8 - at - count))) in
      bit_at_or (bit_and o (bit_not w8 m)) (bit_and s m) i
      ∙ rw (bit_at_and o (bit_not w8 m) i, bit_at_and s m i, bit_at_not w8 m i small few) refl

  pub bits-put : (o b i : ℕ) → i < count →
      bit_or (bit_and o (bit_not w8 (bits_mask at count))) (bit_and (b * 2 ^ at % 2 ^ 8) (bits_mask at count))
      / 2 ^ (at + i) % 2 ≡ b / 2 ^ i % 2
  bits-put o b i few =
      let s = b * 2 ^ at % 2 ^ 8 in
      let whole : b * 2 ^ at / 2 ^ 8 * 2 ^ 8 + s ≡ b * 2 ^ at + 0 = shr_split (b * 2 ^ at) 8 ∙ omega arith in
      let here : at + i - at ≡ i = omega arith in
      picked o s (at + i) (omega (arith, few, within))
      ∙ rw (mask-inside (at + i) (omega arith) (omega (arith, few))) (omega (arith, bit_at-lt s (at + i)))
      ∙ sym (bit_at_cat_low (b * 2 ^ at / 2 ^ 8) 8 s (at + i) (omega (arith, few, within)))
      ∙ ap (λ (n : ℕ). n / 2 ^ (at + i) % 2) whole
      ∙ bit_at_cat_high b at 0 (at + i) (pow_pos at) (omega arith)
      ∙ ap (λ (n : ℕ). b / 2 ^ n % 2) here

  pub others-kept : (o s i : ℕ) → i < 8 → (i < at) ⊎ (at + count ≤ i) →
      bit_or (bit_and o (bit_not w8 (bits_mask at count))) (bit_and s (bits_mask at count)) / 2 ^ i % 2 ≡ o / 2 ^ i % 2
  others-kept o s i few out =
      picked o s i few ∙ rw (mask-outside i out) (omega (arith, bit_at-lt o i))
