-- More arrivals: the bits of each line, and their places.
use Rattle.std.proofs.Common.{◌≡◌, ℕ, zero, suc, ◌+◌, ◌-◌, ◌<◌, ◌≤◌, Bool, List, [], ◌∷◌, ◌++◌, length, map, zip}
use Rattle.std.proofs.Common.{refl, sym}
use Rattle.std.proofs.Common.{ap, ◌∙◌, arith}
use Rattle.std.proofs.lemmas.List.{map-append}
use Rattle.bus_bits.specs.Bits.{bit_at, bits_from}
use Rattle.bus_bits.proofs.BitLemmas.{bits-more, length-from}
use Rattle.bus_bits.proofs.ListLemmas.{zip-append}
use Rattle.bus_line.specs.declared.line.Line.{Line}
use Rattle.bus_line.specs.declared.line.Line.TheVariants.{First, Second}
use Rattle.bus_tap.specs.Arrival.{Arrival, arrival_of, arrivals_from, own, firsts_before}

-- the bits of a line
pub own-append : (line : Line) (xs ys : List Arrival) → own line (xs ++ ys) ≡ own line xs ++ own line ys
own-append First [] ys = refl
own-append Second [] ys = refl
own-append First ((First, bit) ∷ xs) ys = ap (λ b. bit ∷ b) (own-append First xs ys)
own-append First ((Second, bit) ∷ xs) ys = own-append First xs ys
own-append Second ((First, bit) ∷ xs) ys = own-append Second xs ys
own-append Second ((Second, bit) ∷ xs) ys = ap (λ b. bit ∷ b) (own-append Second xs ys)

-- the places of the second line stay when more arrives
pub before-append : (k : ℕ) (xs ys : List Arrival) → k < length (own Second xs) →
    firsts_before k (xs ++ ys) ≡ firsts_before k xs
before-append k [] ys inside = absurd (omega (arith, inside))
before-append k ((First, bit) ∷ xs) ys inside = ap suc (before-append k xs ys inside)
before-append zero ((Second, bit) ∷ xs) ys inside = refl
before-append (suc k) ((Second, bit) ∷ xs) ys inside = before-append k xs ys (omega (arith, inside))

-- before the next bit of the second line come all bits of the first
pub before-now : (xs : List Arrival) (bit : Bool) →
    firsts_before (length (own Second xs)) (xs ++ (Second, bit) ∷ []) ≡ length (own First xs)
before-now [] bit = refl
before-now ((First, b) ∷ xs) bit = ap suc (before-now xs bit)
before-now ((Second, b) ∷ xs) bit = before-now xs bit

pub before-within : (k : ℕ) (xs : List Arrival) → firsts_before k xs ≤ length (own First xs)
before-within k [] = omega arith
before-within k ((First, bit) ∷ xs) = omega (arith, before-within k xs)
before-within zero ((Second, bit) ∷ xs) = omega arith
before-within (suc k) ((Second, bit) ∷ xs) = before-within k xs

-- ---- those of two rows of octets

-- some of them, and more
pub symbols-more : (bits lines : List ℕ) (i m n : ℕ) →
    zip (bits_from bits i (m + n)) (bits_from lines i (m + n))
    ≡ zip (bits_from bits i m) (bits_from lines i m) ++ zip (bits_from bits (i + m) n) (bits_from lines (i + m) n)
symbols-more bits lines i m n =
    rw (bits-more bits i m n, bits-more lines i m n)
    (zip-append (bits_from bits i m) (bits_from lines i m) (bits_from bits (i + m) n) (bits_from lines (i + m) n)
    (length-from bits i m ∙ sym (length-from lines i m)))

pub arrivals-more : (bits lines : List ℕ) (i m n : ℕ) →
    arrivals_from bits lines i (m + n) ≡ arrivals_from bits lines i m ++ arrivals_from bits lines (i + m) n
arrivals-more bits lines i m n =
    ap (map arrival_of) (symbols-more bits lines i m n)
    ∙ map-append arrival_of (zip (bits_from bits i m) (bits_from lines i m))
    (zip (bits_from bits (i + m) n) (bits_from lines (i + m) n))

pub arrivals-first : (bits lines : List ℕ) (i n : ℕ) → arrivals_from bits lines i (suc n)
    ≡ arrival_of (bit_at bits i, bit_at lines i) ∷ arrivals_from bits lines (i + 1) n
unfolding bits_from
arrivals-first bits lines i n = refl

pub arrivals-none : (bits lines : List ℕ) (i : ℕ) → arrivals_from bits lines i 0 ≡ []
unfolding bits_from
arrivals-none bits lines i = refl

pub arrivals-between : (bits lines : List ℕ) (from at end : ℕ) → from ≤ at → at ≤ end →
    arrivals_from bits lines from (end - from)
    ≡ arrivals_from bits lines from (at - from) ++ arrivals_from bits lines at (end - at)
arrivals-between bits lines from at end begun within =
    let count : end - from ≡ (at - from) + (end - at) = omega (arith, begun, within) in
    let here : from + (at - from) ≡ at = omega (arith, begun) in
    ap (arrivals_from bits lines from) count
    ∙ (arrivals-more bits lines from (at - from) (end - at)
    ∙ ap (λ (i : ℕ). arrivals_from bits lines from (at - from) ++ arrivals_from bits lines i (end - at)) here)

-- and the last of them
pub arrivals-last : (bits lines : List ℕ) (i n : ℕ) → arrivals_from bits lines i (n + 1)
    ≡ arrivals_from bits lines i n ++ arrival_of (bit_at bits (i + n), bit_at lines (i + n)) ∷ []
arrivals-last bits lines i n =
    arrivals-more bits lines i n 1
    ∙ ap (λ (ys : List Arrival). arrivals_from bits lines i n ++ ys)
    (arrivals-first bits lines (i + n) 0
    ∙ ap (λ (ys : List Arrival). arrival_of (bit_at bits (i + n), bit_at lines (i + n)) ∷ ys)
    (arrivals-none bits lines (i + n + 1)))

pub length-arrivals : (bits lines : List ℕ) (i n : ℕ) → length (arrivals_from bits lines i n) ≡ n
length-arrivals bits lines i zero = ap length (arrivals-none bits lines i)
length-arrivals bits lines i (suc n) =
    ap length (arrivals-first bits lines i n) ∙ ap suc (length-arrivals bits lines (i + 1) n)
