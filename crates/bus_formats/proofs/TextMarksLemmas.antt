-- Which octets of a text are bits, many at once.
use Rattle.std.proofs.Common.{◌≡◌, ◌≢◌, slice_index_or, ℕ, zero, suc, ◌+◌, ◌-◌, ◌*◌, ◌/◌, ◌%◌, ◌^◌, ◌<◌, Bool}
use Rattle.std.proofs.Common.{true, false, List, [], ◌∷◌, length, map, replicate, get_or, eqb, inl, inr, refl, sym, ap}
use Rattle.std.proofs.Common.{◌∙◌, arith}
use Rattle.std.specs.Prelude.{bit_and, take, drop}
use Rattle.std.proofs.lemmas.Nat.{pow_pos}
use Rattle.std.specs.Simd.Lanes.{Each1}
use Rattle.std.proofs.lemmas.Grind.{and_high_numeral}
use Rattle.std.proofs.lemmas.Simd.{zip2_splat}
use Rattle.std.proofs.lemmas.Bool.{and_from, cases_eq, ne_eqb, true≢false}
use Rattle.std.proofs.lemmas.List.{take_all, length-map}
use Rattle.std.proofs.Math.Nat.{pow-suc}
use Rattle.std.specs.List.{list_all}
use lib.Lanes.{mask_l, zip2}
use Rattle.bus_bits.specs.Octet.{bits_of}
use Rattle.bus_bits.specs.Text.{is_bit, is_space}
use Rattle.bus_formats.proofs.TextBitsLemmas.{mark_is_bit, mark_by_half}

-- the bits of a mask
pub bits-mask : (ms : List Bool) (k : ℕ) → length ms ≡ k → bits_of k (mask_l ms) ≡ ms
unfolding bits_of
bits-mask [] zero long = refl
bits-mask [] (suc k) long = absurd (omega (arith, long))
bits-mask (m ∷ ms) zero long = absurd (omega (arith, long))
bits-mask (true ∷ ms) (suc k) long =
    let low : (1 + 2 * mask_l ms) % 2 ≡ 1 = omega arith in
    let rest : (1 + 2 * mask_l ms) / 2 ≡ mask_l ms = omega arith in
    rw (low, rest, bits-mask ms k (omega (arith, long))) refl
bits-mask (false ∷ ms) (suc k) long =
    let low : (0 + 2 * mask_l ms) % 2 ≡ 0 = omega arith in
    let rest : (0 + 2 * mask_l ms) / 2 ≡ mask_l ms = omega arith in
    rw (low, rest, bits-mask ms k (omega (arith, long))) refl

-- `0` and `1` share all bits but the lowest
share-bits : (x : ℕ) → x < 256 → eqb (bit_and x 254) 48 ≡ is_bit x
share-bits x small =
    let kept : bit_and x 254 + x % 2 ≡ x = and_high_numeral x 253 (omega arith) (omega (arith, small)) in
    elim (cases_eq (x / 2) 24) [
      | inl half ↦
          let same : bit_and x 254 ≡ 48 = omega (arith, kept, half) in
          rw same (sym (mark_is_bit x half))
      | inr no-half ↦
          let other : bit_and x 254 ≢ 48 = λ same-digit. no-half (omega (arith, kept, same-digit)) in
          ne_eqb (bit_and x 254) 48 other ∙ sym (mark_by_half x no-half)
    ]

share-all : (xs : List ℕ) → Each1 (λ x. x < 256) xs → map (λ (x : ℕ). eqb x 48) (map (λ (x : ℕ). bit_and x 254) xs)
    ≡ map is_bit xs
share-all [] small = refl
share-all (x ∷ xs) small =
    rw (share-bits x small.0, share-all xs small.1) refl

-- octets without their lowest bits are as many
pub length-shared : (xs : List ℕ) (n : ℕ) → length xs ≡ n → length (zip2 bit_and xs (replicate n 254)) ≡ n
length-shared xs n long =
    ap length (zip2_splat bit_and xs n 254 long) ∙ (length-map xs (λ (x : ℕ). bit_and x 254) ∙ long)

-- which of some octets are bits, by their other bits
pub bits-shared : (xs : List ℕ) (n : ℕ) → length xs ≡ n → Each1 (λ x. x < 256) xs →
    map (λ (x : ℕ). eqb x 48) (zip2 bit_and xs (replicate n 254)) ≡ map is_bit xs
bits-shared xs n long small = ap (map (λ (x : ℕ). eqb x 48)) (zip2_splat bit_and xs n 254 long) ∙ share-all xs small

-- an array of octets has no others
pub all-octets : (xs : List ℕ) → ((i : ℕ) → slice_index_or xs i 0 < 256) → Each1 (λ x. x < 256) xs
all-octets [] small = tt
all-octets (x ∷ xs) small = (small 0, all-octets xs (λ i. small (suc i)))

-- ---- what the octets give

-- ones alone
ones-are : (k : ℕ) → bits_of k (2 ^ k - 1) ≡ replicate k true
unfolding bits_of
ones-are zero = refl
ones-are (suc k) =
    let low : (2 ^ suc k - 1) % 2 ≡ 1 = omega (arith, pow-suc 2 k, pow_pos k) in
    let rest : (2 ^ suc k - 1) / 2 ≡ 2 ^ k - 1 = omega (arith, pow-suc 2 k, pow_pos k) in
    rw (low, rest, ones-are k) refl

-- octets of which each is a bit
all-bits : (xs : List ℕ) (n : ℕ) → map is_bit xs ≡ replicate n true → list_all is_bit xs ≡ true
all-bits [] n ones = refl
all-bits (x ∷ xs) zero ones = absurd (omega (arith, ap length ones))
all-bits (x ∷ xs) (suc n) ones =
    and_from (is_bit x) (list_all is_bit xs) (ap (λ (z : List Bool). get_or z 0 false) ones)
    (all-bits xs n (ap (drop 1) ones))

pub all-front : (front : List ℕ) (k w : ℕ) → length front ≡ k → w ≡ 2 ^ k - 1 → bits_of k w ≡ map is_bit front →
    list_all is_bit (take k front) ≡ true
all-front front k w long ones is =
    ap (list_all is_bit) (take_all k front (omega (arith, long)))
    ∙ all-bits front k (sym is ∙ (ap (bits_of k) ones ∙ ones-are k))

-- what is skipped is no bit
pub space-no-bit : (x : ℕ) → is_space x ≡ true → is_bit x ≡ false
space-no-bit x space = elim (cases_eq x 48) [
  | inl zero-mark ↦ absurd (true≢false (sym (rw zero-mark at space)))
  | inr no-zero ↦ elim (cases_eq x 49) [
    | inl one-mark ↦ absurd (true≢false (sym (rw one-mark at space)))
    | inr no-one ↦ rw (ne_eqb x 48 no-zero) (ne_eqb x 49 no-one)
  ]
]
