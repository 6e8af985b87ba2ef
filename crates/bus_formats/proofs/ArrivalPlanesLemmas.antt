-- Arrivals of a text, packed into two blocks.
use Rattle.std.proofs.Common.{◌≡◌, ℕ, ◌+◌, ◌==◌, ◌||◌, Bool, true, false, cond, List, [], ◌∷◌, ◌++◌, map}
use Rattle.std.proofs.Common.{zip, refl, sym, ap, ◌∙◌, arith}
use Rattle.std.proofs.lemmas.Bool.Decides.{nat_tests}
use Rattle.std.proofs.lemmas.List.{length-map}
use Rattle.std.specs.Simd.Lanes.{mask_l}
use Rattle.bus_formats.specs.Capture.{is_arrival, mark_arrival}
use Rattle.bus_bits.specs.Text.{is_bit, is_space}
use Rattle.bus_bits.proofs.ListLemmas.{zip-append}

-- ---- the marks of some octets

one-of : (a b : Bool) → (a ≡ true → b ≡ false) → cond a 1 0 + cond b 1 0 ≡ cond (a || b) 1 0
one-of true true other = absurd (let none = other refl in cc)
one-of true false other = refl
one-of false true other = refl
one-of false false other = refl

-- the octets of two kinds, of which none is of both
pub mask-sum : (p q : ℕ → Bool) → ((x : ℕ) → p x ≡ true → q x ≡ false) → (xs : List ℕ) →
    mask_l (map p xs) + mask_l (map q xs) ≡ mask_l (map (λ x. p x || q x) xs)
mask-sum p q other [] = refl
mask-sum p q other (x ∷ xs) = omega (arith, one-of (p x) (q x) (other x), mask-sum p q other xs)

pub one-is-first : (x : ℕ) → (x == 49) ≡ true → (x == 105) ≡ false
one-is-first x is = grind (arith, nat_tests)

pub second-zero-is : (x : ℕ) → (x == 111) ≡ true → (x == 105) ≡ false
second-zero-is x is = grind (arith, nat_tests)

pub zero-is-first : (x : ℕ) → (x == 48) ≡ true → (x == 49) ≡ false
zero-is-first x is = grind (arith, nat_tests)

pub first-is-no-second : (x : ℕ) → is_bit x ≡ true → ((x == 111) || (x == 105)) ≡ false
first-is-no-second x is = grind (arith, nat_tests)

-- what is skipped is no arrival
pub space-no-arrival : (x : ℕ) → is_space x ≡ true → is_arrival x ≡ false
space-no-arrival x space = grind (arith, nat_tests)

-- ---- both blocks

both-values : (xs : List ℕ) →
    map mark_arrival xs ≡ zip (map (λ x. (mark_arrival x).0) xs) (map (λ x. (mark_arrival x).1) xs)
both-values [] = refl
both-values (x ∷ xs) = ap (λ (z : List (Bool × Bool)). mark_arrival x ∷ z) (both-values xs)

pub both-given : (had all : List ℕ) (bits lines : List Bool) →
    map (λ x. (mark_arrival x).0) all ≡ map (λ x. (mark_arrival x).0) had ++ bits →
    map (λ x. (mark_arrival x).1) all ≡ map (λ x. (mark_arrival x).1) had ++ lines →
    map mark_arrival all ≡ map mark_arrival had ++ zip bits lines
both-given had all bits lines ones seconds =
    both-values all
    ∙ rw (ones, seconds, both-values had)
    (zip-append (map (λ x. (mark_arrival x).0) had) (map (λ x. (mark_arrival x).1) had) bits lines
    (length-map had (λ x. (mark_arrival x).0) ∙ sym (length-map had (λ x. (mark_arrival x).1))))
