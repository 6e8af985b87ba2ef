-- Hexadecimal digits of many octets at once.
use Rattle.std.proofs.Common.{arith, ◌≡◌, refl, sym, ◌∙◌, ap, subst, get_or, bit_and, ◌^◌, ◌+◌, ◌*◌, ◌/◌, ◌%◌, ◌<◌}
use Rattle.std.proofs.Common.{◌++◌, ◌∷◌, [], ℕ, cond, ltb, zero, suc, List, length, take, drop, map}
use Rattle.std.specs.Simd.Lanes.{Each1, zip2, sel_l, top, pick_l}
use Rattle.std.proofs.lemmas.Simd.{zip2_splat, pick_l_whole}
use Rattle.std.proofs.lemmas.Nat.{and_mask}
use Rattle.std.proofs.lemmas.List.{take_at, drop-drop}
use Rattle.std.proofs.Math.Seq.{take-add}
use Rattle.std.specs.Prelude.{replicate}
use Rattle.std.specs.Simd.{first_chunks}
use Rattle.bus_text.specs.Listing.{hex_digit, hex_of}

-- what is so of each number below sixteen
pub below_sixteen : (P : ℕ → Type 0) → P 0 → P 1 → P 2 → P 3 → P 4 → P 5 → P 6 → P 7 → P 8 → P 9 → P 10 → P 11
    → P 12 → P 13 → P 14 → P 15 → (d : ℕ) → d < 16 → P d
below_sixteen P p0 p1 p2 p3 p4 p5 p6 p7 p8 p9 p10 p11 p12 p13 p14 p15 zero low = p0
below_sixteen P p0 p1 p2 p3 p4 p5 p6 p7 p8 p9 p10 p11 p12 p13 p14 p15 (suc zero) low = p1
below_sixteen P p0 p1 p2 p3 p4 p5 p6 p7 p8 p9 p10 p11 p12 p13 p14 p15 (suc (suc zero)) low = p2
below_sixteen P p0 p1 p2 p3 p4 p5 p6 p7 p8 p9 p10 p11 p12 p13 p14 p15 (suc (suc (suc zero))) low = p3
below_sixteen P p0 p1 p2 p3 p4 p5 p6 p7 p8 p9 p10 p11 p12 p13 p14 p15 (suc (suc (suc (suc zero)))) low = p4
below_sixteen P p0 p1 p2 p3 p4 p5 p6 p7 p8 p9 p10 p11 p12 p13 p14 p15 (suc (suc (suc (suc (suc zero))))) low = p5
below_sixteen P p0 p1 p2 p3 p4 p5 p6 p7 p8 p9 p10 p11 p12 p13 p14 p15 (suc (suc (suc (suc (suc (suc zero)))))) low = p6
below_sixteen P p0 p1 p2 p3 p4 p5 p6 p7 p8 p9 p10 p11 p12 p13 p14 p15
    (suc (suc (suc (suc (suc (suc (suc zero))))))) low = p7
below_sixteen P p0 p1 p2 p3 p4 p5 p6 p7 p8 p9 p10 p11 p12 p13 p14 p15
    (suc (suc (suc (suc (suc (suc (suc (suc zero)))))))) low = p8
below_sixteen P p0 p1 p2 p3 p4 p5 p6 p7 p8 p9 p10 p11 p12 p13 p14 p15
    (suc (suc (suc (suc (suc (suc (suc (suc (suc zero))))))))) low = p9
below_sixteen P p0 p1 p2 p3 p4 p5 p6 p7 p8 p9 p10 p11 p12 p13 p14 p15
    (suc (suc (suc (suc (suc (suc (suc (suc (suc (suc zero)))))))))) low = p10
below_sixteen P p0 p1 p2 p3 p4 p5 p6 p7 p8 p9 p10 p11 p12 p13 p14 p15
    (suc (suc (suc (suc (suc (suc (suc (suc (suc (suc (suc zero))))))))))) low = p11
below_sixteen P p0 p1 p2 p3 p4 p5 p6 p7 p8 p9 p10 p11 p12 p13 p14 p15
    (suc (suc (suc (suc (suc (suc (suc (suc (suc (suc (suc (suc zero)))))))))))) low = p12
below_sixteen P p0 p1 p2 p3 p4 p5 p6 p7 p8 p9 p10 p11 p12 p13 p14 p15
    (suc (suc (suc (suc (suc (suc (suc (suc (suc (suc (suc (suc (suc zero))))))))))))) low = p13
below_sixteen P p0 p1 p2 p3 p4 p5 p6 p7 p8 p9 p10 p11 p12 p13 p14 p15
    (suc (suc (suc (suc (suc (suc (suc (suc (suc (suc (suc (suc (suc (suc zero)))))))))))))) low = p14
below_sixteen P p0 p1 p2 p3 p4 p5 p6 p7 p8 p9 p10 p11 p12 p13 p14 p15
    (suc (suc (suc (suc (suc (suc (suc (suc (suc (suc (suc (suc (suc (suc (suc zero))))))))))))))) low = p15
below_sixteen P p0 p1 p2 p3 p4 p5 p6 p7 p8 p9 p10 p11 p12 p13 p14 p15
    (suc (suc (suc (suc (suc (suc (suc (suc (suc (suc (suc (suc (suc (suc (suc (suc n)))))))))))))))) low =
    absurd (omega (arith, low))

-- the character of each digit of a vector: what is added to it is chosen by whether it is more than 9
abbrev character : ℕ → ℕ
character d = (d + cond (top 7 (cond (ltb 9 d) 255 0)) 87 48) % 256

character_of : (d : ℕ) → d < 16 → character d ≡ hex_digit d
character_of =
    below_sixteen (λ d. character d ≡ hex_digit d)
    refl refl refl refl refl refl refl refl refl refl refl refl refl refl refl refl

abbrev pub characters : List ℕ → ℕ → List ℕ
characters ds n =
    zip2 (λ a b. (a + b) % 256) ds
    (sel_l (map (top 7) (zip2 (λ a b. cond (ltb a b) 255 0) (replicate n 9) ds)) (replicate n 87) (replicate n 48))

characters_of : (ds : List ℕ) → Each1 (λ d. d < 16) ds → characters ds (length ds) ≡ map hex_digit ds
characters_of [] low = refl
characters_of (d ∷ ds) low = rw (character_of d low.0) (rw (characters_of ds low.1) refl)

pub letters : (n : ℕ) (ds : List ℕ) → Each1 (λ d. d < 16) ds → length ds ≡ n → characters ds n ≡ map hex_digit ds
letters n ds low long = rw long at (characters_of ds low)

-- the high digit of each octet, and the low one
high_digits : (n : ℕ) (os : List ℕ) → length os ≡ n → zip2 (λ a b. a / 2 ^ b) os (replicate n 4) ≡ map (λ o. o / 16) os
high_digits n os long = zip2_splat (λ a b. a / 2 ^ b) os n 4 long

map_same : {A B : Type 0} (f g : A → B) → ((a : A) → f a ≡ g a) → (xs : List A) → map f xs ≡ map g xs
map_same f g same [] = refl
map_same f g same (x ∷ xs) = rw (same x) (rw (map_same f g same xs) refl)

low_digits : (n : ℕ) (os : List ℕ) → length os ≡ n → zip2 bit_and os (replicate n 15) ≡ map (λ o. o % 16) os
low_digits n os long =
    zip2_splat bit_and os n 15 long ∙ map_same (λ o. bit_and o 15) (λ o. o % 16) (λ o. and_mask o 4) os

-- the digits of all octets, first the high ones, as the machine has them
abbrev pub digits : ℕ → List ℕ → List ℕ
digits n os = zip2 (λ a b. a / 2 ^ b) os (replicate n 4) ++ zip2 bit_and os (replicate n 15)

digits_are : (n : ℕ) (os : List ℕ) → length os ≡ n → digits n os ≡ map (λ o. o / 16) os ++ map (λ o. o % 16) os
digits_are n os long = rw (high_digits n os long) (rw (low_digits n os long) refl)

all_below : (os : List ℕ) → ((i : ℕ) → get_or os i 0 < 256) → (is : List ℕ)
    → Each1 (λ d. d < 16) (map (λ o. o / 16) os ++ map (λ o. o % 16) is)
all_below [] fits [] = tt
all_below [] fits (i ∷ is) = (omega arith, all_below [] fits is)
all_below (o ∷ os) fits is = (omega (arith, fits 0), all_below os (λ i. fits (suc i)) is)

at_below : (ds : List ℕ) → Each1 (λ d. d < 16) ds → (k : ℕ) → get_or ds k 0 < 16
at_below [] low k = omega arith
at_below (d ∷ ds) low zero = low.0
at_below (d ∷ ds) low (suc k) = at_below ds low.1 k

picked_below : (ds : List ℕ) → Each1 (λ d. d < 16) ds → (ks : List ℕ) → Each1 (λ d. d < 16) (pick_l 0 ds ks)
picked_below ds low [] = tt
picked_below ds low (k ∷ ks) = (at_below ds low k, picked_below ds low ks)

pub digits_below : (n : ℕ) (os : List ℕ) → length os ≡ n → ((i : ℕ) → get_or os i 0 < 256) → (ks : List ℕ)
    → Each1 (λ d. d < 16) (pick_l 0 (digits n os) ks)
digits_below n os long fits ks = rw (digits_are n os long) (picked_below _ (all_below os fits os) ks)

-- high and low digits in turn are what the octets are written as
abbrev pub in_turn : List ℕ
in_turn =
    0 ∷ 16 ∷ 1 ∷ 17 ∷ 2 ∷ 18 ∷ 3 ∷ 19 ∷ 4 ∷ 20 ∷ 5 ∷ 21 ∷ 6 ∷ 22 ∷ 7 ∷ 23 ∷ 8 ∷ 24 ∷ 9 ∷ 25 ∷ 10 ∷ 26 ∷ 11 ∷ 27 ∷ 12
    ∷ 28 ∷ 13 ∷ 29 ∷ 14 ∷ 30 ∷ 15 ∷ 31 ∷ []

abbrev Woven : List ℕ → Type 0
Woven os = map hex_digit (pick_l 0 (map (λ o. o / 16) os ++ map (λ o. o % 16) os) in_turn) ≡ hex_of os

pub woven : (os : List ℕ) → length os ≡ 16 → map hex_digit (pick_l 0 (digits 16 os) in_turn) ≡ hex_of os
woven os long = rw (digits_are 16 os long) (subst Woven (pick_l_whole 0 os 16 long) refl)

-- the digits of octets one part after the other
pub hex_append : (os is : List ℕ) → hex_of (os ++ is) ≡ hex_of os ++ hex_of is
hex_append [] is = refl
hex_append (o ∷ os) is = rw (hex_append os is) refl

pub hex_length : (os : List ℕ) → length (hex_of os) ≡ 2 * length os
hex_length [] = refl
hex_length (o ∷ os) = omega (arith, hex_length os)

-- the digits of octets before others
pub hex_front : (os is : List ℕ) → take (2 * length os) (hex_of (os ++ is)) ≡ hex_of os
hex_front os is =
    ap (take (2 * length os)) (hex_append os is) ∙ take_at (hex_of os) (hex_of is) (2 * length os) (hex_length os)

chunk_at : (n i : ℕ) (os : List ℕ) (count : ℕ) → i < count
    → get_or (first_chunks n count os) i [] ≡ take n (drop (n * i) os)
chunk_at n i os zero more = absurd (omega (arith, more))
chunk_at n zero os (suc count) more =
    let none : 0 ≡ n * 0 = omega arith in
    ap (λ k. take n (drop k os)) none
chunk_at n (suc i) os (suc count) more =
    let before : n + n * i ≡ n * suc i = omega arith in
    chunk_at n i (drop n os) count (omega (arith, more))
    ∙ ap (take n) (drop-drop (n * i) n os ∙ ap (λ k. drop k os) before)

-- one chunk after the others
pub hex_chunk : (n i : ℕ) (os : List ℕ) (count : ℕ) → i < count
    → hex_of (take (n * i) os) ++ hex_of (get_or (first_chunks n count os) i []) ≡ hex_of (take (n * (i + 1)) os)
hex_chunk n i os count more =
    let after : n * i + n ≡ n * (i + 1) = omega arith in
    ap (λ chunk. hex_of (take (n * i) os) ++ hex_of chunk) (chunk_at n i os count more)
    ∙ sym (hex_append (take (n * i) os) (take n (drop (n * i) os)))
    ∙ ap hex_of (sym (take-add (n * i) n os) ∙ ap (λ k. take k os) after)
