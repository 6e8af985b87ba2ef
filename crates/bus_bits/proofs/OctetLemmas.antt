-- Octets, their bits and numbers.
use Rattle.std.proofs.Common.{◌≡◌, ℕ, zero, suc, ◌+◌, ◌-◌, ◌*◌, ◌/◌, ◌%◌, ◌^◌, ◌<◌, ◌≤◌, ◌==◌, Bool, true, false, cond}
use Rattle.std.proofs.Common.{List, [], ◌∷◌, ◌++◌, length, take, min, nat_cmp, refl, sym, ap, ◌∙◌, arith, length-append}
use Rattle.std.proofs.lemmas.List.{append-nil, flat_map_more, take_at}
use Rattle.std.proofs.lemmas.List.Elements.{All-head, All-tail}
use Rattle.std.proofs.lemmas.Grind.{flat_map-append}
use Rattle.std.proofs.Math.Nat.{pow-suc, mul_assoc}
use Rattle.std.proofs.lemmas.Bool.Decides.{nat_tests}
use Rattle.std.proofs.lemmas.Nat.{shr-shr, field_of}
use Rattle.std.proofs.Math.Pow.{mod-mod-pow}
use mir.Val.{bool_byte}
use Rattle.std.specs.List.{flat_map, All}
use Rattle.std.specs.Ordering.{ord_min}
use Rattle.bus_bits.specs.Octet.{bits_of, bits_of_octets, number, octets}

-- the machine's least of two
pub least : (a b : ℕ) → ord_min nat_cmp a b ≡ min a b
least a b = grind (arith, nat_tests)

-- ---- numbers

pub number-cons : (b : Bool) (d : List Bool) → number (b ∷ d) ≡ number d * 2 + cond b 1 0
unfolding number
number-cons b d = refl

-- a 0 at the highest place
pub number-push : (d : List Bool) → number (d ++ false ∷ []) ≡ number d
unfolding number
number-push [] = refl
number-push (b ∷ d) = rw (number-push d) refl

pub number-lt : (d : List Bool) → number d < 2 ^ length d
unfolding number
number-lt [] = omega arith
number-lt (true ∷ d) = omega (arith, number-lt d, pow-suc 2 (length d))
number-lt (false ∷ d) = omega (arith, number-lt d, pow-suc 2 (length d))

pub same_number : (x y : List Bool) → length x ≡ length y → number x ≡ number y → x ≡ y
unfolding number
same_number [] [] lengths numbers = refl
same_number [] (b ∷ y) lengths numbers = absurd (omega arith)
same_number (a ∷ x) [] lengths numbers = absurd (omega arith)
same_number (true ∷ x) (false ∷ y) lengths numbers = absurd (omega arith)
same_number (false ∷ x) (true ∷ y) lengths numbers = absurd (omega arith)
same_number (true ∷ x) (true ∷ y) lengths numbers = rw (same_number x y (omega arith) (omega arith)) refl
same_number (false ∷ x) (false ∷ y) lengths numbers = rw (same_number x y (omega arith) (omega arith)) refl

pub number-append : (x y : List Bool) → number (x ++ y) ≡ number x + number y * 2 ^ length x
unfolding number
number-append [] y = omega arith
number-append (b ∷ x) y =
    let power : number y * 2 ^ suc (length x) ≡ number y * 2 ^ length x * 2 =
    ap (λ (n : ℕ). number y * n) (pow-suc 2 (length x)) ∙ sym (mul_assoc (number y) (2 ^ length x) 2) in
    omega (arith, number-append x y)

-- ---- bits of a number

pub length-bits : (k n : ℕ) → length (bits_of k n) ≡ k
unfolding bits_of
length-bits zero n = refl
length-bits (suc k) n = ap suc (length-bits k (n / 2))

-- the bits of a number, some and the others
pub bits-split : (j k n : ℕ) → bits_of (j + k) n ≡ bits_of j n ++ bits_of k (n / 2 ^ j)
unfolding bits_of
bits-split zero k n =
    let whole : n ≡ n / 1 = omega arith in
    let count : 0 + k ≡ k = omega arith in
    ap (λ (i : ℕ). bits_of i n) count ∙ ap (bits_of k) whole
bits-split (suc j) k n =
    let count : suc j + k ≡ suc (j + k) = omega arith in
    let next : 1 + j ≡ suc j = omega arith in
    ap (λ (i : ℕ). bits_of i n) count ∙ ap (λ (z : List Bool). (n % 2 == 1) ∷ z)
    (bits-split j k (n / 2) ∙ ap (λ (x : ℕ). bits_of j (n / 2) ++ bits_of k x)
    (shr-shr n 1 j ∙ ap (λ (i : ℕ). n / 2 ^ i) next))

-- the first bits of a number
pub bits-front : (t n x : ℕ) → t ≤ n → take t (bits_of n x) ≡ bits_of t x
bits-front t n x within =
    let size : n ≡ t + (n - t) = omega (arith, within) in
    ap (λ (i : ℕ). take t (bits_of i x)) size ∙ (ap (take t) (bits-split t (n - t) x)
    ∙ take_at (bits_of t x) (bits_of (n - t) (x / 2 ^ t)) t (length-bits t x))

-- a bit alone
pub one_bit : (x n : ℕ) (bit : Bool) → x ≡ bool_byte bit → 1 ≤ n → n ≤ 1 → bits_of n x ≡ bit ∷ []
unfolding bits_of
one_bit x n bit is some most =
    let one : n ≡ 1 = omega (arith, some, most) in
    rw (one, is) (each bit)
  where
    each : (bit : Bool) → bits_of 1 (bool_byte bit) ≡ bit ∷ []
    each true = refl
    each false = refl

-- higher bits do not count
pub bits-low : (k n : ℕ) → bits_of k (n % 2 ^ k) ≡ bits_of k n
unfolding bits_of
bits-low zero n = refl
bits-low (suc k) n =
    let next : suc k ≡ k + 1 = omega arith in
    let high : n % 2 ^ suc k / 2 ≡ n / 2 % 2 ^ k = rw next (field_of n k 1) in
    let low : n % 2 ^ suc k % 2 ≡ n % 2 = rw next (mod-mod-pow n k 1) in
    rw (low, high, bits-low k (n / 2)) refl

pub bit_is : (n : ℕ) → cond (n % 2 == 1) 1 0 ≡ n % 2
bit_is n = grind (arith, nat_tests)

pub number-bits : (k n : ℕ) → n < 2 ^ k → number (bits_of k n) ≡ n
unfolding number bits_of
number-bits zero n small = omega arith
number-bits (suc k) n small =
    let half : n / 2 < 2 ^ k = omega (arith, pow-suc 2 k) in
    omega (arith, number-bits k (n / 2) half, bit_is n)

pub bits-number : (d : List Bool) (k : ℕ) → length d ≡ k → bits_of k (number d) ≡ d
bits-number d k long =
    let small : number d < 2 ^ k = rw (← long) (number-lt d) in
    same_number (bits_of k (number d)) d (length-bits k (number d) ∙ sym long) (number-bits k (number d) small)

-- the bits of eight places, each by the division that reaches it
pub bits_of_eight : (o : ℕ)
    → (o % 2 == 1) ∷ (o / 2 % 2 == 1) ∷ (o / 4 % 2 == 1) ∷ (o / 8 % 2 == 1) ∷ (o / 16 % 2 == 1) ∷ (o / 32 % 2 == 1)
    ∷ (o / 64 % 2 == 1) ∷ (o / 128 % 2 == 1) ∷ []
    ≡ bits_of 8 o
unfolding bits_of
bits_of_eight o =
    let by-4 : o / 2 / 2 ≡ o / 4 = omega arith in
    let by-8 : o / 4 / 2 ≡ o / 8 = omega arith in
    let by-16 : o / 8 / 2 ≡ o / 16 = omega arith in
    let by-32 : o / 16 / 2 ≡ o / 32 = omega arith in
    let by-64 : o / 32 / 2 ≡ o / 64 = omega arith in
    let by-128 : o / 64 / 2 ≡ o / 128 = omega arith in
    simp (by-4, by-8, by-16, by-32, by-64, by-128)

-- ---- octets

pub bits_of_octets-cons : (o : ℕ) (os : List ℕ) → bits_of_octets (o ∷ os) ≡ bits_of 8 o ++ bits_of_octets os
unfolding bits_of_octets
bits_of_octets-cons o os = refl

pub bits_of_octets-push : (os : List ℕ) (o : ℕ) → bits_of_octets (os ++ o ∷ []) ≡ bits_of_octets os ++ bits_of 8 o
unfolding bits_of_octets
bits_of_octets-push os o = sym (flat_map_more (bits_of 8) [] os o)

pub bits_of_octets-append : (os ps : List ℕ) → bits_of_octets (os ++ ps) ≡ bits_of_octets os ++ bits_of_octets ps
unfolding bits_of_octets
bits_of_octets-append os ps = flat_map-append (bits_of 8) os ps

pub length-bits_of_octets : (os : List ℕ) → length (bits_of_octets os) ≡ 8 * length os
unfolding bits_of_octets
length-bits_of_octets [] = refl
length-bits_of_octets (o ∷ os) =
    omega (arith, length-append (bits_of 8 o) (flat_map (bits_of 8) os), length-bits 8 o, length-bits_of_octets os)

octets-none : octets [] ≡ []
unfolding octets
octets-none = refl

octets-append-none : (e : List Bool) → octets [] ++ octets e ≡ octets e
octets-append-none e = ap (λ (x : List ℕ). x ++ octets e) octets-none

-- eight bits are the first octet
pub octets-cons : (b d : List Bool) → length b ≡ 8 → octets (b ++ d) ≡ number b ∷ octets d
unfolding octets
octets-cons (s ∷ t ∷ u ∷ v ∷ w ∷ x ∷ y ∷ z ∷ []) d eight = refl
octets-cons (s ∷ t ∷ u ∷ v ∷ w ∷ x ∷ y ∷ z ∷ a ∷ b) d eight = absurd (omega arith)
octets-cons (s ∷ t ∷ u ∷ v ∷ w ∷ x ∷ y ∷ []) d eight = absurd (omega arith)
octets-cons (s ∷ t ∷ u ∷ v ∷ w ∷ x ∷ []) d eight = absurd (omega arith)
octets-cons (s ∷ t ∷ u ∷ v ∷ w ∷ []) d eight = absurd (omega arith)
octets-cons (s ∷ t ∷ u ∷ v ∷ []) d eight = absurd (omega arith)
octets-cons (s ∷ t ∷ u ∷ []) d eight = absurd (omega arith)
octets-cons (s ∷ t ∷ []) d eight = absurd (omega arith)
octets-cons (s ∷ []) d eight = absurd (omega arith)
octets-cons [] d eight = absurd (omega arith)

-- the octets of whole octets and further bits
pub octets-append : (d e : List Bool) → length d % 8 ≡ 0 → octets (d ++ e) ≡ octets d ++ octets e
octets-append [] e whole = sym (octets-append-none e)
octets-append (s ∷ t ∷ u ∷ v ∷ w ∷ x ∷ y ∷ z ∷ d) e whole =
    let octet : List Bool = s ∷ t ∷ u ∷ v ∷ w ∷ x ∷ y ∷ z ∷ [] in
    let whole-rest : length d % 8 ≡ 0 = omega arith in
    octets-cons octet (d ++ e) refl ∙ ap (λ (x : List ℕ). number octet ∷ x) (octets-append d e whole-rest)
    ∙ ap (λ (x : List ℕ). x ++ octets e) (sym (octets-cons octet d refl))
octets-append (s ∷ []) e whole = absurd (omega arith)
octets-append (s ∷ t ∷ []) e whole = absurd (omega arith)
octets-append (s ∷ t ∷ u ∷ []) e whole = absurd (omega arith)
octets-append (s ∷ t ∷ u ∷ v ∷ []) e whole = absurd (omega arith)
octets-append (s ∷ t ∷ u ∷ v ∷ w ∷ []) e whole = absurd (omega arith)
octets-append (s ∷ t ∷ u ∷ v ∷ w ∷ x ∷ []) e whole = absurd (omega arith)
octets-append (s ∷ t ∷ u ∷ v ∷ w ∷ x ∷ y ∷ []) e whole = absurd (omega arith)

-- eight bits more are one octet more
pub octets-push : (d b : List Bool) → length d % 8 ≡ 0 → length b ≡ 8 → octets (d ++ b) ≡ octets d ++ number b ∷ []
octets-push d b whole eight =
    octets-append d b whole
    ∙ ap (λ (x : List ℕ). octets d ++ x) (ap octets (sym (append-nil b)) ∙ octets-cons b [] eight
    ∙ ap (λ (x : List ℕ). number b ∷ x) octets-none)

-- octets are those of their bits
pub octets-of-bits : (os : List ℕ) → All (λ o. o < 256) os → octets (bits_of_octets os) ≡ os
unfolding octets bits_of_octets
octets-of-bits [] small = refl
octets-of-bits (o ∷ os) small =
    ap octets (bits_of_octets-cons o os) ∙ octets-cons (bits_of 8 o) (bits_of_octets os) (length-bits 8 o)
    ∙ (let first : number (bits_of 8 o) ≡ o = number-bits 8 o (All-head (λ n. n < 256) o os small) in
    let others = octets-of-bits os (All-tail (λ n. n < 256) o os small) in cc)

-- data of whole octets are the bits of these
pub bits-of-octets : (d : List Bool) → length d % 8 ≡ 0 → bits_of_octets (octets d) ≡ d
unfolding octets bits_of_octets
bits-of-octets (s ∷ t ∷ u ∷ v ∷ w ∷ x ∷ y ∷ z ∷ d) whole =
    let octet : List Bool = s ∷ t ∷ u ∷ v ∷ w ∷ x ∷ y ∷ z ∷ [] in
    let whole-rest : length d % 8 ≡ 0 = omega arith in
    bits_of_octets-cons (number octet) (octets d)
    ∙ (let first : bits_of 8 (number octet) ≡ octet = bits-number octet 8 refl in
    rw (first, bits-of-octets d whole-rest) refl)
bits-of-octets [] whole = refl
bits-of-octets (s ∷ []) whole = absurd (omega arith)
bits-of-octets (s ∷ t ∷ []) whole = absurd (omega arith)
bits-of-octets (s ∷ t ∷ u ∷ []) whole = absurd (omega arith)
bits-of-octets (s ∷ t ∷ u ∷ v ∷ []) whole = absurd (omega arith)
bits-of-octets (s ∷ t ∷ u ∷ v ∷ w ∷ []) whole = absurd (omega arith)
bits-of-octets (s ∷ t ∷ u ∷ v ∷ w ∷ x ∷ []) whole = absurd (omega arith)
bits-of-octets (s ∷ t ∷ u ∷ v ∷ w ∷ x ∷ y ∷ []) whole = absurd (omega arith)
