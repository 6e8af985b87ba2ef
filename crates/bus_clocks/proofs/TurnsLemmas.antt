-- Arrivals that take turns, and 64 of which the second line is silent.
use Rattle.std.proofs.Common.{◌≡◌, ℕ, zero, suc, ◌+◌, ◌-◌, ◌<◌, ◌≤◌, Bool, List, [], ◌∷◌, ◌++◌, length, refl, sym, ap}
use Rattle.std.proofs.Common.{◌∙◌, arith, length-append, inl, inr, Some, take}
use Rattle.std.proofs.Common.{◌*◌, map, zip, true, false, not, replicate}
use Rattle.std.specs.Prelude.{slice_get}
use Rattle.std.proofs.lemmas.Bool.{cases_lt}
use Rattle.bus_bits.specs.Bits.{bits_from}
use Rattle.bus_bits.specs.Octet.{bits_of}
use Rattle.bus_formats.specs.Packed.{in_pairs}
use Rattle.bus_bits.proofs.OctetLemmas.{length-bits}
use Rattle.bus_line.specs.declared.line.Line.TheVariants.{First, Second}
use Rattle.bus_tap.specs.Arrival.{Arrival, arrival_of, arrivals_from, own, firsts_before}
use Rattle.bus_tap.proofs.ArrivalLemmas.{own-append, before-append}
use Rattle.bus_clocks.specs.Internal.Parts.{Parts, beyond}
use Rattle.bus_clocks.specs.declared.parted.Parted.{Parted}
use Rattle.bus_clocks.proofs.PartsLemmas.{before-behind}

-- so many more are parted, of either line
pub parts-more : (xs zs : List Arrival) (p : Parted) (first second : List Bool) (before : List ℕ) →
    length xs + length zs ≤ 512 → Parts xs p → first ≡ p.first ++ own First zs → second ≡ p.second ++ own Second zs →
    length before ≡ 512
    → ((k : ℕ) → k < length (own Second xs) → slice_get before k ≡ slice_get p.before k)
    → ((k : ℕ) → k < length (own Second zs) → slice_get before (length (own Second xs) + k)
    ≡ Some (length (own First xs) + firsts_before k zs))
    → Parts (xs ++ zs) (record p { first = first; second = second; before = before })
parts-more xs zs p first second before room parts ones twos long had more = record {
  few = omega (arith, room, length-append xs zs);
  long = long;
  first = ones ∙ (ap (λ (b : List Bool). b ++ own First zs) parts.first ∙ sym (own-append First xs zs));
  second = twos ∙ (ap (λ (b : List Bool). b ++ own Second zs) parts.second ∙ sym (own-append Second xs zs));
  before = λ k inside. elim (cases_lt k (length (own Second xs))) [
    | inl here ↦ had k here ∙ (parts.before k here ∙ ap Some (sym (before-append k xs zs here)))
    | inr beyond ↦
        (let i = k - length (own Second xs) in
        let sum : length (own Second xs) + i ≡ k = omega (arith, beyond) in
        let near : i < length (own Second zs) = omega (
          arith,
          inside,
          beyond,
          ap length (own-append Second xs zs),
          length-append (own Second xs) (own Second zs),
        ) in
        ap (slice_get before) (sym sum)
        ∙ (more i near ∙ ap Some (sym (before-behind i xs zs) ∙ ap (λ (j : ℕ). firsts_before j (xs ++ zs)) sum)))
  ];
}

-- the lines of turns
abbrev turns : Bool → ℕ → List Bool
turns second zero = []
turns second (suc n) = second ∷ not second ∷ turns second n

-- pairs of bits, each line's in turn; the second line's first where it begins
abbrev in_turns : Bool → List (Bool × Bool) → List Arrival
in_turns second [] = []
in_turns true (p ∷ ps) = (Second, p.0) ∷ (First, p.1) ∷ in_turns true ps
in_turns false (p ∷ ps) = (First, p.0) ∷ (Second, p.1) ∷ in_turns false ps

turns-are : (second : Bool) (n : ℕ) (b : List Bool) → length b ≡ 2 * n →
    map arrival_of (zip b (turns second n)) ≡ in_turns second (in_pairs b)
unfolding in_pairs
turns-are second zero [] long = refl
turns-are second zero (x ∷ b) long = absurd (omega (arith, long))
turns-are second (suc n) [] long = absurd (omega (arith, long))
turns-are second (suc n) (x ∷ []) long = absurd (omega (arith, long))
turns-are true (suc n) (x ∷ y ∷ b) long =
    ap (λ (zs : List Arrival). (Second, x) ∷ (First, y) ∷ zs) (turns-are true n b (omega (arith, long)))
turns-are false (suc n) (x ∷ y ∷ b) long =
    ap (λ (zs : List Arrival). (First, x) ∷ (Second, y) ∷ zs) (turns-are false n b (omega (arith, long)))

turns-own : (a b : List Bool) → length a ≡ length b →
    ((own First (in_turns false (zip a b)) ≡ a) × (own Second (in_turns false (zip a b)) ≡ b))
    × ((own First (in_turns true (zip a b)) ≡ b) × (own Second (in_turns true (zip a b)) ≡ a))
turns-own [] [] long = ((refl, refl), (refl, refl))
turns-own [] (y ∷ b) long = absurd (omega (arith, long))
turns-own (x ∷ a) [] long = absurd (omega (arith, long))
turns-own (x ∷ a) (y ∷ b) long =
    let rest = turns-own a b (omega (arith, long)) in (
      (ap (λ z. x ∷ z) rest.0.0, ap (λ z. y ∷ z) rest.0.1),
      (ap (λ z. y ∷ z) rest.1.0, ap (λ z. x ∷ z) rest.1.1),
    )

turns-first : (a b : List Bool) (k : ℕ) → k < length a → length a ≡ length b →
    (firsts_before k (in_turns false (zip a b)) ≡ 1 + k) × (firsts_before k (in_turns true (zip a b)) ≡ 0 + k)
turns-first [] b k inside long = absurd (omega (arith, inside))
turns-first (x ∷ a) [] k inside long = absurd (omega (arith, long))
turns-first (x ∷ a) (y ∷ b) zero inside long = (refl, refl)
turns-first (x ∷ a) (y ∷ b) (suc k) inside long =
    let rest = turns-first a b k (omega (arith, inside)) (omega (arith, long)) in
    (omega (arith, rest.0), omega (arith, rest.1))

-- 64 arrivals of two rows of octets, where the lines take turns
pub record AreTurns (zs : List Arrival) (ones twos ahead : ℕ) : Type 0 where
  pub first : own First zs ≡ bits_of 32 ones
  pub second : own Second zs ≡ bits_of 32 twos
  pub before : (k : ℕ) → k < 32 → firsts_before k zs ≡ ahead + k

turns-from : (second : Bool) (bits lines : List ℕ) (at x y : ℕ) → bits_of 64 y ≡ turns second 32 →
    bits_of 64 x ≡ bits_from bits at 64 → bits_of 64 y ≡ bits_from lines at 64 →
    arrivals_from bits lines at 64 ≡ in_turns second (in_pairs (bits_of 64 x))
turns-from second bits lines at x y are ones twos =
    rw (← ones, ← twos, are) (turns-are second 32 (bits_of 64 x) (length-bits 64 x))

first-alternate : bits_of 64 12297829382473034410 ≡ turns false 32
unfolding bits_of
first-alternate = refl

second-alternate : bits_of 64 6148914691236517205 ≡ turns true 32
unfolding bits_of
second-alternate = refl

pub first-begins : (bits lines : List ℕ) (at x y a b : ℕ) → y ≡ 12297829382473034410
    → bits_of 64 x ≡ bits_from bits at 64 → bits_of 64 y ≡ bits_from lines at 64
    → in_pairs (bits_of 64 x) ≡ zip (bits_of 32 a) (bits_of 32 b)
    → AreTurns (arrivals_from bits lines at 64) a b 1
first-begins bits lines at x y a b is ones twos pairs =
    let long : length (bits_of 32 a) ≡ length (bits_of 32 b) = length-bits 32 a ∙ sym (length-bits 32 b) in
    let whole = turns-from false bits lines at x y (ap (bits_of 64) is ∙ first-alternate) ones twos
    ∙ ap (in_turns false) pairs in
    let own = (turns-own (bits_of 32 a) (bits_of 32 b) long).0 in
    rw whole (record {
      first = own.0;
      second = own.1;
      before = λ k inside.
          (turns-first (bits_of 32 a) (bits_of 32 b) k (omega (arith, inside, length-bits 32 a)) long).0;
    })

pub second-begins : (bits lines : List ℕ) (at x y a b : ℕ) → y ≡ 6148914691236517205
    → bits_of 64 x ≡ bits_from bits at 64 → bits_of 64 y ≡ bits_from lines at 64
    → in_pairs (bits_of 64 x) ≡ zip (bits_of 32 a) (bits_of 32 b)
    → AreTurns (arrivals_from bits lines at 64) b a 0
second-begins bits lines at x y a b is ones twos pairs =
    let long : length (bits_of 32 a) ≡ length (bits_of 32 b) = length-bits 32 a ∙ sym (length-bits 32 b) in
    let whole = turns-from true bits lines at x y (ap (bits_of 64) is ∙ second-alternate) ones twos
    ∙ ap (in_turns true) pairs in
    let own = (turns-own (bits_of 32 a) (bits_of 32 b) long).1 in
    rw whole (record {
      first = own.0;
      second = own.1;
      before = λ k inside.
          (turns-first (bits_of 32 a) (bits_of 32 b) k (omega (arith, inside, length-bits 32 a)) long).1;
    })

-- ---- 64 arrivals of which the second line is silent

silent-own : (n : ℕ) (b : List Bool) → length b ≡ n →
    (own First (map arrival_of (zip b (replicate n false))) ≡ b)
    × (own Second (map arrival_of (zip b (replicate n false))) ≡ [])
silent-own zero [] long = (refl, refl)
silent-own zero (x ∷ b) long = absurd (omega (arith, long))
silent-own (suc n) [] long = absurd (omega (arith, long))
silent-own (suc n) (x ∷ b) long =
    let rest = silent-own n b (omega (arith, long)) in
    (ap (λ z. x ∷ z) rest.0, rest.1)

none-second : bits_of 64 0 ≡ replicate 64 false
unfolding bits_of
none-second = refl

pub silent-from : (bits lines : List ℕ) (at x y : ℕ) → y ≡ 0
    → bits_of 64 x ≡ bits_from bits at 64 → bits_of 64 y ≡ bits_from lines at 64
    → (own First (arrivals_from bits lines at 64) ≡ bits_of 64 x) × (own Second (arrivals_from bits lines at 64) ≡ [])
silent-from bits lines at x y is ones twos =
    rw (← ones, ← twos, ap (bits_of 64) is ∙ none-second) (silent-own 64 (bits_of 64 x) (length-bits 64 x))
