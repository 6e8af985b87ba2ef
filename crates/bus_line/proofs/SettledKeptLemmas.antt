-- What is left of bits without the inserted 0s.
use Rattle.std.proofs.Common.{◌≡◌, ◌≢◌, ℕ, zero, suc, ◌+◌, ◌-◌, ◌*◌, ◌/◌, ◌%◌, ◌^◌, ◌<◌, ◌≤◌, ◌==◌, Bool, List, [], ◌∷◌}
use Rattle.std.proofs.Common.{◌++◌, ◌⊎◌, refl, sym, ap, ◌∙◌, subst, arith, nat_eq, not, inl, inr}
use Rattle.std.specs.Prelude.{bit_and, false, ◌↔◌}
use mir.Val.{bool_byte}
use Rattle.std.specs.Int.Bits.{and_self, and_zero_l, and_zero_r}
use Rattle.std.specs.Int.{bit_at, w64, trailing_zeros}
use Rattle.std.proofs.lemmas.Nat.{shr-shr, and_le_l, and_mask, and_shr, and_block, div-mul-add, mod_below, mul-add-lt}
use Rattle.std.proofs.lemmas.Nat.{pow-add, pow_below, pow_pos, one_shl, shr_below, shr_high, shr_split}
use Rattle.std.proofs.lemmas.Grind.{and-not_self}
use Rattle.std.proofs.lemmas.Nat.Bits.{bit_at-zero, bit_at_and, bit_at_not, bit_at_ones, bit_at_above, bit_at_cat_low}
use Rattle.std.proofs.lemmas.Nat.Bits.{bit_at_cat_high, bit_at-pow_other, bit_at-lt, bit_at-trailing_zeros}
use Rattle.std.proofs.lemmas.List.{append-nil}
use Rattle.std.proofs.lemmas.Bool.{cases_lt, eq-eqb, ne_eqb}
use Rattle.std.proofs.Math.Nat.{mul-le-mul_right, pow-suc, add-mul, mul_assoc, add-zero, mod-eq_of_lt, mod_self}
use Rattle.bus_bits.specs.Octet.{bits_of}
use Rattle.bus_line.proofs.WordLemmas.{field-more}
use Rattle.bus_line.proofs.SettledDataLemmas.{MAX}
use Rattle.bus_line.specs.Internal.Settled.{kept, data_in_word}

-- ---- bits of a number

-- the highest bit apart
bits-back : (k n : ℕ) → bits_of (suc k) n ≡ bits_of k n ++ (n / 2 ^ k % 2 == 1) ∷ []
unfolding bits_of
bits-back zero n = let whole : n ≡ n / 1 = omega arith in ap (λ (x : ℕ). (x % 2 == 1) ∷ []) whole
bits-back (suc k) n =
    let next : 1 + k ≡ suc k = omega arith in
    ap (λ (z : List Bool). (n % 2 == 1) ∷ z)
    (bits-back k (n / 2) ∙ ap (λ (x : ℕ). bits_of k (n / 2) ++ (x % 2 == 1) ∷ [])
    (shr-shr n 1 k ∙ ap (λ (j : ℕ). n / 2 ^ j) next))

-- ---- which bits are kept

marked-or-free : (s k : ℕ) → (bit_at s k ≡ 1) ⊎ (bit_at s k ≢ 1)
marked-or-free s k =
    elim (cases_lt (bit_at s k) 1) [
      | inl none ↦ inr (λ one. omega (arith, none, one))
      | inr some ↦ inl (let most = bit_at-lt s k in omega (arith, some, most))
    ]

-- a marked bit is not kept, and any other is
kept-out : (x s k : ℕ) → bit_at s k ≡ 1 → kept x s (suc k) ≡ kept x s k
kept-out x s k marked = rw (eq-eqb _ _ marked) (append-nil (kept x s k))

kept-in : (x s k : ℕ) → bit_at s k ≢ 1 → kept x s (suc k) ≡ kept x s k ++ (bit_at x k == 1) ∷ []
kept-in x s k free = rw (ne_eqb _ _ free) refl

-- one bit more of each
kept-both : (x y s t k i : ℕ) → (bit_at s i ≢ 1 → bit_at y k ≡ bit_at x i) → bit_at t k ≡ bit_at s i →
    kept y t k ≡ kept x s i → kept y t (suc k) ≡ kept x s (suc i)
kept-both x y s t k i same-bit same-mark same =
    elim (marked-or-free s i) [
      | inl marked ↦ kept-out y t k (same-mark ∙ marked) ∙ (same ∙ sym (kept-out x s i marked))
      | inr free ↦ kept-in y t k (λ one. free (sym same-mark ∙ one))
          ∙ rw (same-bit free, same) (sym (kept-in x s i free))
    ]

-- only the bits count, and of these only those that are not marked
kept-same : (x y s t k : ℕ) → ((i : ℕ) → i < k → bit_at s i ≢ 1 → bit_at y i ≡ bit_at x i) →
    ((i : ℕ) → i < k → bit_at t i ≡ bit_at s i) → kept y t k ≡ kept x s k
kept-same x y s t zero bits marks = refl
kept-same x y s t (suc k) bits marks =
    kept-both x y s t k k (bits k (omega arith)) (marks k (omega arith))
    (kept-same x y s t k (λ i below. bits i (omega (arith, below))) (λ i below. marks i (omega (arith, below))))

-- without the bit at place `j`, those above it one place lower
abbrev Without : ℕ → ℕ → ℕ → ℕ → Type 0
Without j k x y = (i : ℕ) → i < k → (i < j → bit_at y i ≡ bit_at x i) × (j ≤ i → bit_at y i ≡ bit_at x (suc i))

less : (j k x y : ℕ) → Without j (suc k) x y → Without j k x y
less j k x y without i below = without i (omega (arith, below))

-- a marked bit can be taken out
kept-last : (x y s t j k : ℕ) → j ≡ k → bit_at s j ≡ 1 → Without j k x y → Without j k s t →
    kept y t k ≡ kept x s (suc k)
kept-last x y s t j k last marked bits marks =
    kept-same x y s t k (λ i below free. (bits i below).0 (omega (arith, last, below)))
    (λ i below. (marks i below).0 (omega (arith, last, below)))
    ∙ sym (kept-out x s k (ap (bit_at s) (sym last) ∙ marked))

kept-without : (x y s t j k : ℕ) → j ≤ k → bit_at s j ≡ 1 → Without j k x y → Without j k s t →
    kept y t k ≡ kept x s (suc k)
kept-without x y s t j zero within marked bits marks =
    kept-last x y s t j zero (omega (arith, within)) marked bits marks
kept-without x y s t j (suc k) within marked bits marks =
    elim (cases_lt j (suc k)) [
      | inl before ↦
          let inside : j ≤ k = omega (arith, before) in
          kept-both x y s t k (suc k) (λ free. (bits k (omega arith)).1 inside) ((marks k (omega arith)).1 inside)
          (kept-without x y s t j k inside marked (less j k x y bits) (less j k s t marks))
      | inr last ↦ kept-last x y s t j (suc k) (omega (arith, within, last)) marked bits marks
    ]

-- where none is marked, all are kept
pub kept-all : (x k : ℕ) → kept x 0 k ≡ bits_of k x
unfolding bits_of
kept-all x zero = refl
kept-all x (suc k) =
    kept-in x 0 k (λ one. omega (arith, bit_at-zero k, one)) ∙ rw (kept-all x k) (sym (bits-back k x))

-- an inserted 0 is no data, and any other bit is
settled-inserted : (w k : ℕ) → w / 2 ^ (3 + k) % 64 ≡ 31 → data_in_word w (suc k) ≡ data_in_word w k
settled-inserted w k inserted = rw (eq-eqb _ _ inserted) (append-nil (data_in_word w k))

settled-bit : (w k : ℕ) → w / 2 ^ (3 + k) % 64 ≢ 31 →
    data_in_word w (suc k) ≡ data_in_word w k ++ (w / 2 ^ (8 + k) % 2 == 1) ∷ []
settled-bit w k plain = rw (ne_eqb _ _ plain) refl

-- the inserted 0s marked, the data of the word are kept
settled-kept : (w x s k : ℕ) → ((i : ℕ) → i < k → bit_at s i ≡ 1 ↔ w / 2 ^ (3 + i) % 64 ≡ 31) →
    ((i : ℕ) → i < k → bit_at x i ≡ bit_at w (8 + i)) → kept x s k ≡ data_in_word w k
settled-kept w x s zero marks bits = refl
settled-kept w x s (suc k) marks bits =
    let here = marks k (omega arith) in
    let rest =
    settled-kept w x s k (λ i below. marks i (omega (arith, below))) (λ i below. bits i (omega (arith, below))) in
    elim (marked-or-free s k) [
      | inl marked ↦ kept-out x s k marked ∙ (rest ∙ sym (settled-inserted w k (here.0 marked)))
      | inr free ↦ kept-in x s k free
          ∙ rw (bits k (omega arith), rest) (sym (settled-bit w k (λ inserted. free (here.1 inserted))))
    ]

pub settled-word : (w s n : ℕ) → n ≤ 56 → ((i : ℕ) → i < 56 → bit_at s i ≡ 1 ↔ w / 2 ^ (3 + i) % 64 ≡ 31)
    → (kept (w / 256) (bit_and s (1 * 2 ^ n % 18446744073709551616 - 1)) n ≡ data_in_word w n)
    × (bit_and s (1 * 2 ^ n % 18446744073709551616 - 1) < 2 ^ n)
settled-word w s n few marks =
    let ones : ℕ = 1 * 2 ^ n % 18446744073709551616 - 1 in
    let mask : ones ≡ 2 ^ n - 1 = ap (λ (x : ℕ). x - 1) (one_shl n 64 (omega arith)) in
    let low : bit_and s ones ≡ s % 2 ^ n = ap (bit_and s) mask ∙ and_mask s n in (
      settled-kept w (w / 256) (bit_and s ones) n
          (λ i below.
          let one : bit_at ones i ≡ 1 = ap (λ (x : ℕ). bit_at x i) mask ∙ bit_at_ones n i below in
          let both = bit_at_and s ones i in
          let most = bit_at-lt s i in
          let same : bit_at (bit_and s ones) i ≡ bit_at s i = omega (arith, both, one, most) in
          let here = marks i (omega (arith, few, below)) in
          ((λ marked. here.0 (sym same ∙ marked)), λ inserted. same ∙ here.1 inserted))
          (λ i below. ap (λ (x : ℕ). x % 2) (shr-shr w 8 i)),
      omega (arith, low, pow_pos n),
    )

-- ---- the bits that are not marked

-- the lowest bits, without those that are marked
abbrev pub unmarked : ℕ → ℕ → ℕ → ℕ
unmarked x s n = bit_and (bit_and x (1 * 2 ^ n % 18446744073709551616 - 1)) (MAX - s)

-- bits of which none that is marked is 1, and which are as others but for these
pub record AreMarked (x s n y t m : ℕ) : Type 0 where
  pub small : y < 2 ^ m
  pub marked : t < 2 ^ m
  pub zeros : bit_and y t ≡ 0
  pub same : kept y t m ≡ kept x s n

unmarked-at : (x s n i : ℕ) → n ≤ 56 → s < 2 ^ 64 → i < n → bit_at s i ≢ 1 → bit_at (unmarked x s n) i ≡ bit_at x i
unmarked-at x s n i few word inside free =
    let all : ℕ = 1 * 2 ^ n % 18446744073709551616 - 1 in
    let ones : bit_at all i ≡ 1 =
    ap (λ (m : ℕ). bit_at (m - 1) i) (one_shl n 64 (omega (arith, few))) ∙ bit_at_ones n i inside in
    let low = bit_at_and x all i in
    let both = bit_at_and (bit_and x all) (MAX - s) i in
    let other = bit_at_not w64 s i word (omega (arith, few, inside)) in
    let bit = bit_at-lt s i in
    let mine = bit_at-lt x i in
    let zero : bit_at s i ≡ 0 = omega (arith, free, bit) in
    omega (arith, ones, low, both, other, zero, mine)

pub unmarked-are : (x s n : ℕ) → n ≤ 56 → s < 2 ^ n → AreMarked x s n (unmarked x s n) s n
unmarked-are x s n few below =
    let all : ℕ = 1 * 2 ^ n % 18446744073709551616 - 1 in
    let mask : all ≡ 2 ^ n - 1 = ap (λ (m : ℕ). m - 1) (one_shl n 64 (omega (arith, few))) in
    let low : bit_and x all ≡ x % 2 ^ n = ap (bit_and x) mask ∙ and_mask x n in
    let word : s < 2 ^ 64 = omega (arith, below, pow_below n 64 (omega (arith, few))) in
    record {
      small = omega (arith, and_le_l (bit_and x all) (MAX - s), low, mod_below x (2 ^ n) (pow_pos n));
      marked = below;
      zeros = and-not_self (bit_and x all) MAX s s refl (omega (arith, word)) refl;
      same = kept-same x (unmarked x s n) s s n (λ i inside free. unmarked-at x s n i few word inside free)
          (λ i inside. refl);
    }

-- ---- the lowest marked bit taken out

-- the number below, or all ones below 0
abbrev pub one_less : ℕ → ℕ
one_less s = (s + MAX) % 18446744073709551616

-- a number by a place and those above and below it
parts : (x j : ℕ) → x ≡ x / 2 ^ suc j * 2 ^ suc j + (bit_at x j * 2 ^ j + x % 2 ^ j)
parts x j =
    sym (shr_split x (suc j)) ∙ ap (λ (r : ℕ). x / 2 ^ suc j * 2 ^ suc j + r) (field-more x j)

none-below : (s j : ℕ) → ((i : ℕ) → i < j → bit_at s i ≡ 0) → s % 2 ^ j ≡ 0
none-below s zero zeros = omega arith
none-below s (suc j) zeros =
    let rest = none-below s j (λ i below. zeros i (omega (arith, below))) in
    field-more s j ∙ ap (λ (b : ℕ). b * 2 ^ j + s % 2 ^ j) (zeros j (omega arith)) ∙ omega (arith, rest)

-- the places above one lower, and those below as they are
lower : (a l m j k : ℕ) → l < 2 ^ suc j → m < 2 ^ j → ((i : ℕ) → i < j → bit_at m i ≡ bit_at l i)
    → Without j k (a * 2 ^ suc j + l) (a * 2 ^ j + m)
lower a l m j k small little same i within = (
  (λ below.
      let left = bit_at_cat_low a j m i below in
      let right = bit_at_cat_low a (suc j) l i (omega (arith, below)) in
      left ∙ same i below ∙ sym right),
  (λ above.
      let left = bit_at_cat_high a j m i little above in
      let right = bit_at_cat_high a (suc j) l (suc i) small (omega (arith, above)) in
      let same-place : i - j ≡ suc i - suc j = omega arith in
      left ∙ ap (bit_at a) same-place ∙ sym right),
)

-- bits and marks by the place of the lowest mark: others above it, and the bits below it
record ByPlace (x s a b l j : ℕ) : Type 0 where
  bits : x ≡ a * 2 ^ suc j + l
  marks : s ≡ b * 2 ^ suc j + 2 ^ j
  small : l < 2 ^ j
  zeros : bit_and a b ≡ 0

by_place : (x s j : ℕ) → bit_at s j ≡ 1 → ((i : ℕ) → i < j → bit_at s i ≡ 0) → bit_and x s ≡ 0
    → ByPlace x s (x / 2 ^ suc j) (s / 2 ^ suc j) (x % 2 ^ j) j
by_place x s j one none clear =
    let bit : bit_at x j ≡ 0 =
    let both = bit_at_and x s j in
    let nothing = ap (λ (n : ℕ). bit_at n j) clear ∙ bit_at-zero j in
    let lt = bit_at-lt x j in
    omega (arith, both, nothing, one, lt) in
    let above = ap (λ (c : ℕ). x / 2 ^ suc j * 2 ^ suc j + (c * 2 ^ j + x % 2 ^ j)) bit in
    let mark = ap (λ (c : ℕ). s / 2 ^ suc j * 2 ^ suc j + (c * 2 ^ j + s % 2 ^ j)) one in
    record {
      bits = parts x j ∙ above ∙ omega arith;
      marks = parts s j ∙ mark ∙ omega (arith, none-below s j none);
      small = mod_below x (2 ^ j) (pow_pos j);
      zeros = sym (and_shr x s (suc j)) ∙ ap (λ (n : ℕ). n / 2 ^ suc j) clear ∙ omega (arith, pow_pos (suc j));
    }

abbrev pub bits_left : ℕ → ℕ → ℕ
bits_left x s = (x + bit_and x (one_less s)) / 2

abbrev pub marks_left : ℕ → ℕ
marks_left s = bit_and s (one_less s) / 2

-- the lowest mark gone, and its bit with it
bits-twice : (x s a b l j : ℕ) → s < 2 ^ 64 → ByPlace x s a b l j → x + bit_and x (one_less s) ≡ (a * 2 ^ j + l) * 2
bits-twice x s a b l j word parted =
    let some = pow_pos j in
    let double = pow-suc 2 j in
    let wide : l < 2 ^ suc j = omega (arith, parted.small, double, some) in
    let ones : 2 ^ j - 1 < 2 ^ suc j = omega (arith, double, some) in
    let less-one : one_less s ≡ b * 2 ^ suc j + (2 ^ j - 1) = omega (arith, word, parted.marks, some) in
    let low : bit_and x (one_less s) ≡ l =
    ap (λ (n : ℕ). bit_and n (one_less s)) parted.bits ∙ ap (bit_and (a * 2 ^ suc j + l)) less-one
    ∙ and_block (suc j) a b l (2 ^ j - 1) wide ones
    ∙ rw parted.zeros (omega (arith, and_mask l j, mod-eq_of_lt parted.small)) in
    let twice : a * 2 ^ suc j ≡ a * 2 ^ j * 2 = ap (λ (k : ℕ). a * k) double ∙ sym (mul_assoc a (2 ^ j) 2) in
    omega (arith, low, parted.bits, twice)

marks-twice : (x s a b l j : ℕ) → s < 2 ^ 64 → ByPlace x s a b l j → bit_and s (one_less s) ≡ b * 2 ^ j * 2
marks-twice x s a b l j word parted =
    let some = pow_pos j in
    let double = pow-suc 2 j in
    let mark : 2 ^ j < 2 ^ suc j = omega (arith, double, some) in
    let ones : 2 ^ j - 1 < 2 ^ suc j = omega (arith, double, some) in
    let less-one : one_less s ≡ b * 2 ^ suc j + (2 ^ j - 1) = omega (arith, word, parted.marks, some) in
    let none : bit_and (2 ^ j) (2 ^ j - 1) ≡ 0 = and_mask (2 ^ j) j ∙ mod_self (2 ^ j) in
    let others : bit_and s (one_less s) ≡ bit_and b b * 2 ^ suc j + bit_and (2 ^ j) (2 ^ j - 1) =
    ap (λ (n : ℕ). bit_and n (one_less s)) parted.marks ∙ ap (bit_and (b * 2 ^ suc j + 2 ^ j)) less-one
    ∙ and_block (suc j) b b (2 ^ j) (2 ^ j - 1) mark ones in
    let same : bit_and b b * 2 ^ suc j ≡ b * 2 ^ suc j = ap (λ (n : ℕ). n * 2 ^ suc j) (and_self b) in
    let twice : b * 2 ^ suc j ≡ b * 2 ^ j * 2 = ap (λ (k : ℕ). b * k) double ∙ sym (mul_assoc b (2 ^ j) 2) in
    omega (arith, others, none, same, twice)

left-small : (x a l j k : ℕ) → j ≤ k → x < 2 ^ suc k → x ≡ a * 2 ^ suc j + l → l < 2 ^ j → a * 2 ^ j + l < 2 ^ k
left-small x a l j k within below is small =
    let size : suc k ≡ (k - j) + suc j = omega arith in
    let double = pow-suc 2 j in
    let above : x / 2 ^ suc j < 2 ^ (k - j) = shr_below x (k - j) (suc j) (rw size at below) in
    let high : x / 2 ^ suc j ≡ a =
    ap (λ (n : ℕ). n / 2 ^ suc j) is ∙ shr_high a (suc j) l (omega (arith, small, double)) in
    let product : 2 ^ j * 2 ^ (k - j) ≡ 2 ^ k =
    let sum : j + (k - j) ≡ k = omega arith in sym (pow-add 2 j (k - j)) ∙ ap (λ (n : ℕ). 2 ^ n) sum in
    let all = mul-add-lt a (2 ^ j) l (2 ^ (k - j)) (omega (arith, above, high)) small in
    omega (arith, all, product)

out-are : (x s a b l j k : ℕ) → s < 2 ^ 64 → j ≤ k → bit_at s j ≡ 1 → x < 2 ^ suc k → s < 2 ^ suc k
    → ByPlace x s a b l j → AreMarked x s (suc k) (bits_left x s) (marks_left s) k
out-are x s a b l j k word within one x-below s-below parted =
    let some = pow_pos j in
    let double = pow-suc 2 j in
    let wide : l < 2 ^ suc j = omega (arith, parted.small, double, some) in
    let mark : 2 ^ j < 2 ^ suc j = omega (arith, double, some) in
    let bits : bits_left x s ≡ a * 2 ^ j + l = omega (arith, bits-twice x s a b l j word parted) in
    let marks : marks_left s ≡ b * 2 ^ j + 0 = omega (arith, marks-twice x s a b l j word parted) in
    let none : (i : ℕ) → i < j → bit_at 0 i ≡ bit_at (2 ^ j) i =
    λ i below. bit_at-zero i ∙ sym (bit_at-pow_other j i (λ same. omega (arith, same, below))) in
    let kept-bits : Without j k (a * 2 ^ suc j + l) (a * 2 ^ j + l) =
    lower a l l j k wide parted.small (λ i below. refl) in
    let kept-marks : Without j k (b * 2 ^ suc j + 2 ^ j) (b * 2 ^ j + 0) = lower b (2 ^ j) 0 j k mark some none in
    record {
      small = rw bits (left-small x a l j k within x-below parted.bits parted.small);
      marked = omega (arith, and_le_l s (one_less s), s-below, pow-suc 2 k);
      zeros = rw (bits, marks) (and_block j a b l 0 parted.small some ∙ rw (parted.zeros, and_zero_r l) (omega arith));
      same =
          kept-without x (bits_left x s) s (marks_left s) j k within one (rw (bits, parted.bits) kept-bits)
          (rw (marks, parted.marks) kept-marks);
    }

-- some bit is marked; what is halved then is even
some-out : (x s n : ℕ) → 0 < s → n ≤ 56 → x < 2 ^ n → s < 2 ^ n → bit_and x s ≡ 0
    → AreMarked x s n (bits_left x s) (marks_left s) (n - 1)
    × (x + bit_and x (one_less s) ≡ bits_left x s * 2) × (bit_and s (one_less s) ≡ marks_left s * 2)
some-out x s zero some few x-below s-below clear = absurd (omega (arith, some, s-below))
some-out x s (suc k) some few x-below s-below clear =
    let word : s < 2 ^ 64 = omega (arith, s-below, pow_below (suc k) 64 (omega (arith, few))) in
    let lowest = bit_at-trailing_zeros w64 s some word in
    let j : ℕ = trailing_zeros w64 s in
    let left : suc k - 1 ≡ k = omega arith in
    let within : j ≤ k =
    elim (cases_lt k j) [
      | inl past ↦ absurd (omega (arith, lowest.1, bit_at_above s (suc k) j s-below (omega (arith, past))))
      | inr within ↦ within
    ] in
    let parted = by_place x s j lowest.1 lowest.2 clear in
    rw left (
      out-are x s (x / 2 ^ suc j) (s / 2 ^ suc j) (x % 2 ^ j) j k word within lowest.1 x-below s-below parted,
      omega (arith, bits-twice x s (x / 2 ^ suc j) (s / 2 ^ suc j) (x % 2 ^ j) j word parted),
      omega (arith, marks-twice x s (x / 2 ^ suc j) (s / 2 ^ suc j) (x % 2 ^ j) j word parted),
    )

-- none is marked
none-out : (x n : ℕ) → n ≤ 56 → x < 2 ^ n → AreMarked x 0 n (bits_left x 0) (marks_left 0) n
none-out x n few below =
    let all : bit_and x (one_less 0) ≡ x =
    and_mask x 64 ∙ mod-eq_of_lt (omega (arith, below, pow_below n 64 (omega (arith, few)))) in
    let bits : bits_left x 0 ≡ x = omega (arith, all) in
    record {
      small = rw bits below;
      marked = pow_pos n;
      zeros = and_zero_r (bits_left x 0);
      same = rw bits refl;
    }

-- one step: the lowest marked bit is taken out, if there is one
pub lowest-out : (x s n m : ℕ) → n ≤ 56 → x < 2 ^ n → s < 2 ^ n → bit_and x s ≡ 0 → m ≡ bool_byte (not (nat_eq s 0))
    → AreMarked x s n (bits_left x s) (marks_left s) (n - m)
lowest-out x s n m few x-below s-below clear out =
    elim (cases_lt 0 s) [
      | inl some ↦
          let not-zero : (s == 0) ≡ false = ne_eqb s 0 (λ is. omega (arith, some, is)) in
          let left : n - m ≡ n - 1 = ap (λ (i : ℕ). n - i) (out ∙ ap (λ c. bool_byte (not c)) not-zero) in
          rw left (some-out x s n some few x-below s-below clear).0
      | inr none ↦
          let zero : 0 ≡ s = omega (arith, none) in
          let none-out-of : m ≡ 0 = out ∙ ap (λ (c : ℕ). bool_byte (not (nat_eq c 0))) (sym zero) in
          let left : n ≡ n - m = omega (arith, none-out-of) in
          subst (AreMarked x s n (bits_left x s) (marks_left s)) left
          (subst (λ (i : ℕ). AreMarked x i n (bits_left x i) (marks_left i) n) zero (none-out x n few x-below))
    ]

-- ---- all marked bits taken out, and what stood below each higher by a place

-- bits and marks of which so many places were taken out, and that stand so much higher than what is left
pub record AreRaised (x s n a b out : ℕ) : Type 0 where
  pub y : ℕ
  pub t : ℕ
  pub left : ℕ
  pub all : left + out ≡ n
  pub bits : a ≡ y * 2 ^ out
  pub marks : b ≡ t * 2 ^ out
  pub are : AreMarked x s n y t left

pub raised-none : (x s n : ℕ) → x < 2 ^ n → s < 2 ^ n → bit_and x s ≡ 0 → AreRaised x s n x s 0
raised-none x s n small marked zeros = record {
  y = x;
  t = s;
  left = n;
  all = omega arith;
  bits = omega arith;
  marks = omega arith;
  are = record { small = small; marked = marked; zeros = zeros; same = refl };
}

pub raised-fits : {x s n a b out : ℕ} → n ≤ 56 → AreRaised x s n a b out → (a < 2 ^ 57) × (out ≤ 56)
raised-fits {x} {s} {n} {a} {b} {out} few raised =
    let high = mul-add-lt raised.y (2 ^ out) 0 (2 ^ raised.left) raised.are.small (pow_pos out) in
    let size : 2 ^ out * 2 ^ raised.left ≡ 2 ^ (out + raised.left) = sym (pow-add 2 out raised.left) in (
      omega (arith, raised.bits, high, size, pow_below (out + raised.left) 57 (omega (arith, raised.all, few))),
      omega (arith, raised.all, few),
    )

-- no mark is left
pub raised-all : {x s n a out : ℕ} → AreRaised x s n a 0 out → (a / 2 ^ out < 2 ^ (n - out))
    × (bits_of (n - out) (a / 2 ^ out) ≡ kept x s n)
raised-all {x} {s} {n} {a} {out} raised =
    let are = raised.are in
    let size : n - out ≡ raised.left = omega (arith, raised.all) in
    let low : a / 2 ^ out ≡ raised.y =
    ap (λ (k : ℕ). k / 2 ^ out) (raised.bits ∙ sym (add-zero (raised.y * 2 ^ out)))
    ∙ div-mul-add raised.y (2 ^ out) 0 (pow_pos out) in
    let none : raised.t ≡ 0 = elim (cases_lt 0 raised.t) [
      | inl some ↦ absurd (omega (arith, raised.marks, mul-le-mul_right (2 ^ out) some, pow_pos out))
      | inr none ↦ omega (arith, none)
    ] in
    rw (low, size) (are.small, sym (kept-all raised.y raised.left) ∙ rw none at are.same)

raised-and : (x s r : ℕ) → 0 < s → s < 2 ^ 64 → bit_and (x * 2 ^ r) (s * 2 ^ r - 1) ≡ bit_and x (one_less s) * 2 ^ r
raised-and x s r some word =
    let next : s ≡ 1 + one_less s = omega (arith, some, word) in
    let size : s * 2 ^ r ≡ 1 * 2 ^ r + one_less s * 2 ^ r =
    ap (λ (k : ℕ). k * 2 ^ r) next ∙ add-mul 1 (one_less s) (2 ^ r) in
    let less : s * 2 ^ r - 1 ≡ one_less s * 2 ^ r + (2 ^ r - 1) = omega (arith, size, pow_pos r) in
    rw less (ap (λ (k : ℕ). bit_and k (one_less s * 2 ^ r + (2 ^ r - 1))) (sym (add-zero (x * 2 ^ r)))
    ∙ and_block r x (one_less s) 0 (2 ^ r - 1) (pow_pos r) (omega (arith, pow_pos r))
    ∙ omega (arith, and_zero_l (2 ^ r - 1)))

-- the lowest mark is taken out
pub raised-out : {x s n a b out : ℕ} → n ≤ 56 → 0 < b → AreRaised x s n a b out
    → AreRaised x s n (a + bit_and a (b - 1)) (bit_and b (b - 1)) (out + 1)
raised-out {x} {s} {n} {a} {b} {out} few some raised =
    let y = raised.y in
    let t = raised.t in
    let m = raised.left in
    let are = raised.are in
    let marked : 0 < t = elim (cases_lt 0 t) [
      | inl more ↦ more
      | inr none ↦
          let zero : t ≡ 0 = omega (arith, none) in
          absurd (omega (arith, some, raised.marks, ap (λ (k : ℕ). k * 2 ^ out) zero))
    ] in
    let inside : 0 < m = elim (cases_lt 0 m) [
      | inl more ↦ more
      | inr none ↦
          let zero : m ≡ 0 = omega (arith, none) in
          absurd (omega (arith, marked, are.marked, ap (λ (k : ℕ). 2 ^ k) zero))
    ] in
    let word : t < 2 ^ 64 = omega (arith, are.marked, pow_below m 64 (omega (arith, few, raised.all))) in
    let next = some-out y t m marked (omega (arith, few, raised.all)) are.small are.marked are.zeros in
    let double : 2 * 2 ^ out ≡ 2 ^ (out + 1) =
    sym (pow-add 2 1 out) ∙ ap (λ (k : ℕ). 2 ^ k) (omega arith) in
    let higher : (k i : ℕ) → i ≡ k * 2 → i * 2 ^ out ≡ k * 2 ^ (out + 1) =
    λ k i twice. rw twice (mul_assoc k 2 (2 ^ out) ∙ ap (λ (p : ℕ). k * p) double) in
    record {
      y = bits_left y t;
      t = marks_left t;
      left = m - 1;
      all = omega (arith, raised.all, inside);
      bits = rw (raised.bits, raised.marks, raised-and y t out marked word)
          (sym (add-mul y (bit_and y (one_less t)) (2 ^ out)) ∙ higher _ _ next.1);
      marks = rw (raised.marks, raised-and t t out marked word) (higher _ _ next.2);
      are = record {
        small = next.0.small;
        marked = next.0.marked;
        zeros = next.0.zeros;
        same = next.0.same ∙ are.same;
      };
    }

-- the sum of the step has a word's bits
pub sum-fits : (x s n : ℕ) → n ≤ 56 → x < 2 ^ n → x + bit_and x (one_less s) < 2 ^ 64
sum-fits x s n few below =
    omega (arith, and_le_l x (one_less s), below, pow_below n 57 (omega (arith, few)))
