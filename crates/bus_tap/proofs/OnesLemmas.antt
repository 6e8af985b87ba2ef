-- The ones of a word, by their places.
use Rattle.std.proofs.Common.{◌≡◌, ℕ, zero, suc, ◌+◌, ◌-◌, ◌*◌, ◌/◌, ◌%◌, ◌^◌, ◌<◌, ◌≤◌, ◌==◌, Bool, true, false}
use Rattle.std.proofs.Common.{if◌then◌else◌, List, [], ◌∷◌, ◌++◌, length, refl, sym, ap, ◌∙◌, arith, inl, inr, cond}
use Rattle.std.proofs.Common.{w64}
use Rattle.std.proofs.Common.{append-nil}
use Rattle.std.specs.Prelude.{bit_and, bit_or, bit_xor, min, max}
use Rattle.std.specs.Bool.{beq}
use Rattle.std.specs.List.{flat_map}
use Rattle.std.proofs.lemmas.Grind.{flat_map-append}
use Rattle.std.specs.Int.{bit_at, bit_not, trailing_zeros, leading_zeros}
use Rattle.std.proofs.lemmas.Nat.Bits.{bit_at_or, bit_at_xor, bit_at_not}
use Rattle.std.proofs.Common.{not, ◌&&◌, ◌||◌}
use Rattle.std.specs.Int.Count.{ones}
use Rattle.std.proofs.lemmas.Nat.{leading_top, ones_cat, mod-pow-add}
use Rattle.std.proofs.Common.{length-append}
use Rattle.std.proofs.Math.Nat.{mod-one}
use Rattle.std.proofs.lemmas.Nat.{pow_pos, mod_below, shr-shr}
use Rattle.std.proofs.Math.Nat.{pow-suc}
use Rattle.std.proofs.lemmas.Bool.{cases_lt, cases_Bool, eqb-true, eqb-false}
use Rattle.std.proofs.lemmas.Nat.Bits.{bit_at_and, bit_at-lt, bit_at-zero, bit_at-trailing_zeros, bit_at_above}
use Rattle.std.proofs.lemmas.Nat.Bits.{bit_at_cat_low, bit_at_cat_high, same_from_bits_below, bit_at_ones_above}
use Rattle.bus_line.specs.Due.{places}
use Rattle.bus_tap.specs.Blocks.{has_bit, ones_in}
use Rattle.bus_tap.specs.Facts.{places_where}
use Rattle.bus_tap.proofs.EachLemmas.{places-more, places-same}

-- a bit as a number
pub bit-is : (word i : ℕ) → bit_at word i ≡ cond (has_bit word i) 1 0
bit-is word i = elim (cases_Bool (has_bit word i)) [
  | inl one ↦ rw one (eqb-true (bit_at word i) 1 one)
  | inr none ↦ rw none (omega (arith, eqb-false (bit_at word i) 1 none, bit_at-lt word i))
]

pub same-bit : (v w i j : ℕ) → bit_at v i ≡ bit_at w j → has_bit v i ≡ has_bit w j
same-bit v w i j same = ap (λ n. n == 1) same

pub no-bit : (w i : ℕ) → bit_at w i ≡ 0 → has_bit w i ≡ false
no-bit w i none = ap (λ n. n == 1) none

pub one-bit : (w i : ℕ) → bit_at w i ≡ 1 → has_bit w i ≡ true
one-bit w i one = ap (λ n. n == 1) one

pub as-bool : (n : ℕ) (b : Bool) → n ≡ cond b 1 0 → (n == 1) ≡ b
as-bool n true is = ap (λ m. m == 1) is
as-bool n false is = ap (λ m. m == 1) is

-- the bits of words that are joined
xor-bool : (x y : Bool) → (cond x 1 0 + cond y 1 0) % 2 ≡ cond (not (beq x y)) 1 0
xor-bool true true = refl
xor-bool true false = refl
xor-bool false true = refl
xor-bool false false = refl

and-bool : (x y : Bool) → min (cond x 1 0) (cond y 1 0) ≡ cond (x && y) 1 0
and-bool true true = refl
and-bool true false = refl
and-bool false true = refl
and-bool false false = refl

not-bool : (x : Bool) → 1 - cond x 1 0 ≡ cond (not x) 1 0
not-bool true = refl
not-bool false = refl

pub bit-xor : (v w i : ℕ) → has_bit (bit_xor v w) i ≡ not (beq (has_bit v i) (has_bit w i))
bit-xor v w i = as-bool (bit_at (bit_xor v w) i) _
    (bit_at_xor v w i
    ∙ (ap (λ m. (m + bit_at w i) % 2) (bit-is v i)
    ∙ (ap (λ m. (cond (has_bit v i) 1 0 + m) % 2) (bit-is w i) ∙ xor-bool (has_bit v i) (has_bit w i))))

pub bit-and : (v w i : ℕ) → has_bit (bit_and v w) i ≡ (has_bit v i && has_bit w i)
bit-and v w i = as-bool (bit_at (bit_and v w) i) _
    (bit_at_and v w i
    ∙ (ap (λ m. min m (bit_at w i)) (bit-is v i)
    ∙ (ap (λ m. min (cond (has_bit v i) 1 0) m) (bit-is w i) ∙ and-bool (has_bit v i) (has_bit w i))))

or-bool : (x y : Bool) → max (cond x 1 0) (cond y 1 0) ≡ cond (x || y) 1 0
or-bool true true = refl
or-bool true false = refl
or-bool false true = refl
or-bool false false = refl

pub bit-or : (v w i : ℕ) → has_bit (bit_or v w) i ≡ (has_bit v i || has_bit w i)
bit-or v w i = as-bool (bit_at (bit_or v w) i) _
    (bit_at_or v w i
    ∙ (ap (λ m. max m (bit_at w i)) (bit-is v i)
    ∙ (ap (λ m. max (cond (has_bit v i) 1 0) m) (bit-is w i) ∙ or-bool (has_bit v i) (has_bit w i))))

pub bit-not : (w i : ℕ) → w < 2 ^ 64 → i < 64 → has_bit (bit_not w64 w) i ≡ not (has_bit w i)
bit-not w i fits inside = as-bool (bit_at (bit_not w64 w) i) _
    (bit_at_not w64 w i fits inside ∙ (ap (λ m. 1 - m) (bit-is w i) ∙ not-bool (has_bit w i)))

-- where levels rise
rose-bool : (x y : Bool) → (not (beq x y) && y) ≡ (not x && y)
rose-bool true true = refl
rose-bool true false = refl
rose-bool false true = refl
rose-bool false false = refl

pub bit-rose : (v w i : ℕ) → has_bit (bit_and (bit_xor v w) w) i ≡ (not (has_bit v i) && has_bit w i)
bit-rose v w i =
    bit-and (bit_xor v w) w i
    ∙ (ap (λ b. b && has_bit w i) (bit-xor v w i) ∙ rose-bool (has_bit v i) (has_bit w i))

-- the low bits of a number
pub bit_low : (n k i : ℕ) → i < k → bit_at (n % 2 ^ k) i ≡ bit_at n i
bit_low n k i inside =
    let whole : n ≡ n / 2 ^ k * 2 ^ k + n % 2 ^ k = omega (arith, pow_pos k) in
    sym (ap (λ m. bit_at m i) whole ∙ bit_at_cat_low (n / 2 ^ k) k (n % 2 ^ k) i inside)

-- where nothing is so, there is no place
pub where-none : (is : ℕ → Bool) (n : ℕ) → ((i : ℕ) → i < n → is i ≡ false) → places_where is n ≡ []
where-none is zero none = refl
where-none is (suc n) none =
    places-more (λ i. if is i then i ∷ [] else []) (λ i. if is i then i ∷ [] else []) n (λ i inside. refl)
    ∙ (ap (λ l. l ++ (if is n then n ∷ [] else [])) (where-none is n (λ i inside. none i (omega (arith, inside))))
    ∙ ap (λ b. if b then n ∷ [] else []) (none n (omega arith)))

pub where-same : (is was : ℕ → Bool) (n : ℕ) → ((i : ℕ) → i < n → is i ≡ was i) → places_where is n ≡ places_where was n
where-same is was n same =
    places-same (λ i. if is i then i ∷ [] else []) (λ i. if was i then i ∷ [] else []) n
    (λ i inside. ap (λ b. if b then i ∷ [] else []) (same i inside))

where-more : (is : ℕ → Bool) (n : ℕ) → places_where is (suc n) ≡ places_where is n ++ (if is n then n ∷ [] else [])
where-more is n =
    places-more (λ i. if is i then i ∷ [] else []) (λ i. if is i then i ∷ [] else []) n (λ i inside. refl)

where-few : (is : ℕ → Bool) (n : ℕ) → length (places_where is n) ≤ n
where-few is zero = omega arith
where-few is (suc n) =
    omega (
      arith,
      ap length (where-more is n),
      length-append (places_where is n) (if is n then n ∷ [] else []),
      where-few is n,
      one (is n),
    )
  where
    one : (b : Bool) → length (if b then n ∷ [] else []) ≤ 1
    one true = omega arith
    one false = omega arith

pub ones-few : (word : ℕ) → length (ones_in word) ≤ 64
unfolding ones_in
ones-few word = where-few (has_bit word) 64

-- what these places bring alone
pub where-alone : {Y : Type 0} (f : ℕ → List Y) (is : ℕ → Bool) (n : ℕ) → ((i : ℕ) → is i ≡ false → f i ≡ []) →
    flat_map f (places n) ≡ flat_map f (places_where is n)
where-alone f is zero none = refl
where-alone f is (suc n) none =
    places-more f f n (λ i inside. refl)
    ∙ (ap (λ l. l ++ f n) (where-alone f is n none)
    ∙ (ap (λ l. flat_map f (places_where is n) ++ l) (elim (cases_Bool (is n)) [
      | inl one ↦ sym (ap (λ b. flat_map f (if b then n ∷ [] else [])) one ∙ append-nil (f n))
      | inr other ↦ none n other ∙ sym (ap (λ b. flat_map f (if b then n ∷ [] else [])) other)
    ])
    ∙ (sym (flat_map-append f (places_where is n) (if is n then n ∷ [] else []))
    ∙ ap (flat_map f) (sym (where-more is n)))))

-- the first place, and the others
module _ (is was : ℕ → Bool) (t : ℕ) (below : (i : ℕ) → i < t → is i ≡ false) (at : is t ≡ true)
    (none : (i : ℕ) → i ≤ t → was i ≡ false) (behind : (i : ℕ) → t < i → was i ≡ is i) where
  first-up : (m : ℕ) → places_where is (suc t + m) ≡ t ∷ places_where was (suc t + m)
  first-up zero =
      let end : suc t + zero ≡ suc t = omega arith in
      rw end (where-more is t ∙ (ap (λ l. l ++ (if is t then t ∷ [] else [])) (where-none is t below)
      ∙ (ap (λ b. if b then t ∷ [] else []) at
      ∙ ap (λ l. t ∷ l) (sym (where-none was (suc t) (λ i inside. none i (omega (arith, inside))))))))
  first-up (suc m) =
      let end : suc t + suc m ≡ suc (suc t + m) = omega arith in
      rw end (where-more is (suc t + m) ∙ (ap (λ l. l ++ (if is (suc t + m) then (suc t + m) ∷ [] else [])) (first-up m)
      ∙ (ap (λ b. t ∷ (places_where was (suc t + m) ++ (if b then (suc t + m) ∷ [] else [])))
      (sym (behind (suc t + m) (omega arith)))
      ∙ ap (λ l. t ∷ l) (sym (where-more was (suc t + m))))))

  pub first-place : (n : ℕ) → t < n → places_where is n ≡ t ∷ places_where was n
  first-place n inside =
      let parts : n ≡ suc t + (n - suc t) = omega (arith, inside) in
      rw parts (first-up (n - suc t))

twice : (h p q r : ℕ) → q ≡ p * 2 → r ≡ 0 → (h * 2 + 1) * p + r ≡ h * q + p
twice h p q r double none = rw (double, none) (grind arith)

-- the lowest one of a word, and the word without it
module _ (word : ℕ) (some : 1 ≤ word) (fits : word < 2 ^ 64) where
  abbrev t : ℕ
  t = trailing_zeros w64 word

  abbrev rest : ℕ
  rest = bit_and word (word - 1)

  pub lowest : (t < 64) × (bit_at word t ≡ 1) × ((i : ℕ) → i < t → bit_at word i ≡ 0)
  lowest = bit_at-trailing_zeros w64 word some fits

  -- the bits above it
  abbrev high : ℕ
  high = word / 2 ^ (t + 1)

  low-none : word % 2 ^ t ≡ 0
  low-none =
      same_from_bits_below t (word % 2 ^ t) 0 (mod_below word (2 ^ t) (pow_pos t)) (pow_pos t)
      (λ i inside. bit_low word t i inside ∙ (lowest.2 i inside ∙ sym (bit_at-zero i)))

  double : 2 ^ (t + 1) ≡ 2 ^ t * 2
  double = let next : t + 1 ≡ suc t = omega arith in ap (λ j. 2 ^ j) next ∙ pow-suc 2 t

  parts : word ≡ high * 2 ^ (t + 1) + 2 ^ t
  parts =
      let half : word / 2 ^ t / 2 ≡ high = shr-shr word t 1 in
      let odd : word / 2 ^ t ≡ high * 2 + 1 = omega (arith, half, lowest.1) in
      let whole : word ≡ word / 2 ^ t * 2 ^ t + word % 2 ^ t = omega (arith, pow_pos t) in
      whole ∙ (ap (λ n. n * 2 ^ t + word % 2 ^ t) odd ∙ twice high (2 ^ t) (2 ^ (t + 1)) (word % 2 ^ t) double low-none)

  below-parts : word - 1 ≡ high * 2 ^ (t + 1) + (2 ^ t - 1)
  below-parts = omega (arith, parts, pow_pos t)

  at-none : bit_at (word - 1) t ≡ 0
  at-none =
      ap (λ n. bit_at n t) below-parts
      ∙ (bit_at_cat_low high (t + 1) (2 ^ t - 1) t (omega arith) ∙ bit_at_ones_above t t (omega arith))

  pub rest-none : (i : ℕ) → i ≤ t → has_bit rest i ≡ false
  rest-none i inside = no-bit rest i (elim (cases_lt i t) [
    | inl below ↦ bit_at_and word (word - 1) i ∙ omega (arith, lowest.2 i below)
    | inr here ↦
        (let same : i ≡ t = omega (arith, inside, here) in
        ap (bit_at rest) same ∙ (bit_at_and word (word - 1) t ∙ omega (arith, at-none)))
  ])

  pub rest-same : (i : ℕ) → t < i → has_bit rest i ≡ has_bit word i
  rest-same i above =
      let up : bit_at (word - 1) i ≡ bit_at word i =
      ap (λ n. bit_at n i) below-parts
      ∙ (bit_at_cat_high high (t + 1) (2 ^ t - 1) i (omega (arith, double, pow_pos t)) (omega (arith, above))
      ∙ sym (ap (λ n. bit_at n i) parts
      ∙ bit_at_cat_high high (t + 1) (2 ^ t) i (omega (arith, double, pow_pos t)) (omega (arith, above)))) in
      same-bit rest word i i (bit_at_and word (word - 1) i ∙ omega (arith, up))

  pub lowest-first : ones_in word ≡ t ∷ ones_in rest
  unfolding ones_in
  lowest-first =
      first-place (has_bit word) (has_bit rest) t (λ i inside. no-bit word i (lowest.2 i inside))
      (one-bit word t lowest.1) rest-none rest-same 64 lowest.0

-- how many ones there are
ones-bit : (word i : ℕ) → ones (bit_at word i) ≡ length (if has_bit word i then i ∷ [] else [])
unfolding ones
ones-bit word i = elim (cases_Bool (has_bit word i)) [
  | inl one ↦ rw one (ap ones (eqb-true (bit_at word i) 1 one))
  | inr none ↦
      (let is : bit_at word i ≡ 0 = omega (arith, eqb-false (bit_at word i) 1 none, bit_at-lt word i) in
      rw none (ap ones is))
]

ones-upto : (word k : ℕ) → length (places_where (has_bit word) k) ≡ ones (word % 2 ^ k)
unfolding ones
ones-upto word zero = ap ones (sym (mod-one word))
ones-upto word (suc k) =
    let next : suc k ≡ 1 + k = omega arith in
    let whole : word % 2 ^ suc k ≡ bit_at word k * 2 ^ k + word % 2 ^ k =
    ap (λ j. word % 2 ^ j) next ∙ mod-pow-add word 1 k in
    let one = if has_bit word k then k ∷ [] else [] in
    ap length (where-more (has_bit word) k)
    ∙ (omega (
      arith,
      length-append (places_where (has_bit word) k) one,
      ones-upto word k,
      ones-bit word k,
      ones_cat k (bit_at word k) (word % 2 ^ k) (mod_below word (2 ^ k) (pow_pos k)),
    ) ∙ sym (ap ones whole))

pub ones-count : (word : ℕ) → word < 2 ^ 64 → length (ones_in word) ≡ ones word
unfolding ones_in
ones-count word fits = ones-upto word 64 ∙ ap ones (omega (arith, fits))

-- the last place
last-up : (is : ℕ → Bool) (j : ℕ) → is j ≡ true → ((i : ℕ) → j < i → is i ≡ false) → (m : ℕ) →
    places_where is (suc j + m) ≡ places_where is j ++ j ∷ []
last-up is j at none zero =
    let end : suc j + zero ≡ suc j = omega arith in
    rw end (where-more is j ∙ ap (λ b. places_where is j ++ (if b then j ∷ [] else [])) at)
last-up is j at none (suc m) =
    let end : suc j + suc m ≡ suc (suc j + m) = omega arith in
    rw end (where-more is (suc j + m)
    ∙ (ap (λ b. places_where is (suc j + m) ++ (if b then (suc j + m) ∷ [] else [])) (none (suc j + m) (omega arith))
    ∙ (append-nil (places_where is (suc j + m)) ∙ last-up is j at none m)))

-- the last of them is the highest
pub ones-last : (word : ℕ) → 1 ≤ word → word < 2 ^ 64 →
    (front : List ℕ) × (ones_in word ≡ front ++ (63 - leading_zeros w64 word) ∷ [])
unfolding ones_in
ones-last word some fits =
    let top = leading_top 64 word some fits in
    let j = top.0 in
    let last : 63 - leading_zeros w64 word ≡ j = omega (arith, top.1) in
    let size : 64 ≡ suc j + (64 - suc j) = omega (arith, top.1) in
    let double : 2 ^ suc j ≡ 2 ^ j * 2 = pow-suc 2 j in
    let whole : word ≡ 1 * 2 ^ j + (word - 2 ^ j) = omega (arith, top.2) in
    let none : j - j ≡ 0 = omega arith in
    let one : bit_at word j ≡ 1 =
    ap (λ n. bit_at n j) whole
    ∙ (bit_at_cat_high 1 j (word - 2 ^ j) j (omega (arith, top.2, top.3, double)) (omega arith)
    ∙ ap (bit_at 1) none) in (
      places_where (has_bit word) j,
      ap (places_where (has_bit word)) size
          ∙ (last-up (has_bit word) j (one-bit word j one)
          (λ i above. no-bit word i (bit_at_above word (suc j) i top.3 above)) (64 - suc j)
          ∙ ap (λ n. places_where (has_bit word) j ++ n ∷ []) (sym last)),
    )
