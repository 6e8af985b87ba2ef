-- Feeding arrivals one by one.
use Rattle.std.proofs.Common.{◌≡◌, ℕ, ◌+◌, ◌-◌, ◌<◌, ◌≤◌, ◌^◌, false, List, [], ◌∷◌, ◌++◌, length, take, drop}
use Rattle.std.proofs.Common.{get_or, leb, ◌↔◌, IsTrue, refl, sym, ap, ◌∙◌, inl, inr, arith, length-append}
use Rattle.std.proofs.lemmas.Bool.{cases_lt, leb-true, le-leb}
use Rattle.std.proofs.lemmas.List.{take_more, take-append-drop}
use Rattle.bus_line.specs.declared.line.Line.{Line}
use Rattle.bus_line.specs.declared.line.Line.TheVariants.{First, Second}
use Rattle.bus_tap.specs.Arrival.{Arrival, own}
use Rattle.bus_clocks.specs.Clocks.{ClockState, ExceedsPlaces, decoder_on}
use Rattle.bus_tap.proofs.ArrivalLemmas.{own-append}
use Rattle.bus_clocks.proofs.RoomLemmas.{own-count}

-- arrival `i`, as it is read
abbrev pub arrival_at : List Arrival → ℕ → Arrival
arrival_at xs i = get_or xs i (First, false)

pub front-more : (xs : List Arrival) (i : ℕ) → i < length xs → take (i + 1) xs ≡ take i xs ++ arrival_at xs i ∷ []
front-more xs i inside = take_more xs i (First, false) inside

pub count-more : (line : Line) (xs : List Arrival) (i : ℕ) → i < length xs → length (own line (take (i + 1) xs))
    ≡ length (own line (take i xs)) + length (own line (arrival_at xs i ∷ []))
count-more line xs i inside =
    ap (λ ys. length (own line ys)) (front-more xs i inside)
    ∙ (ap length (own-append line (take i xs) (arrival_at xs i ∷ []))
    ∙ length-append (own line (take i xs)) (own line (arrival_at xs i ∷ [])))

pub count-parts : (line : Line) (xs : List Arrival) (i : ℕ) →
    length (own line xs) ≡ length (own line (take i xs)) + length (own line (drop i xs))
count-parts line xs i =
    ap (λ ys. length (own line ys)) (sym (take-append-drop i xs))
    ∙ (ap length (own-append line (take i xs) (drop i xs))
    ∙ length-append (own line (take i xs)) (own line (drop i xs)))

pub rest-more : (line : Line) (xs : List Arrival) (i : ℕ) → i < length xs → length (own line (drop i xs))
    ≡ length (own line (arrival_at xs i ∷ [])) + length (own line (drop (i + 1) xs))
rest-more line xs i inside =
    omega (arith, count-parts line xs i, count-parts line xs (i + 1), count-more line xs i inside)

pub one-own : (x : Arrival) → length (own x.0 (x ∷ [])) ≡ 1
one-own (First, bit) = refl
one-own (Second, bit) = refl

-- where no arrival runs past the last place
pub room-all : {C : Type 0} (a : ClockState C) (xs : List Arrival) → (ExceedsPlaces a xs → ⊥) → (line : Line) →
    (decoder_on a line).place + length (own line xs) ≤ 2 ^ 60
room-all a xs none First = elim (cases_lt (2 ^ 60) (a.first.place + length (own First xs))) [
  | inl far ↦ absurd (none (inl far))
  | inr near ↦ near
]
room-all a xs none Second = elim (cases_lt (2 ^ 60) (a.second.place + length (own Second xs))) [
  | inl far ↦ absurd (none (inr far))
  | inr near ↦ near
]

pub first-own : (x : Arrival) → x.0 ≡ First → length (own First (x ∷ [])) ≡ 1
first-own (First, bit) is = refl
first-own (Second, bit) is = absurd (cc)

pub second-own : (x : Arrival) → x.0 ≡ Second → length (own First (x ∷ [])) ≡ 0
second-own (First, bit) is = absurd (cc)
second-own (Second, bit) is = refl

-- whether the rest of a list has a place on the second line, where it has on the first
pub room-is : {C : Type 0} (a : ClockState C) (xs : List Arrival) (count first second : ℕ) →
    count ≡ length (own First xs) → first ≡ a.first.place → second ≡ a.second.place → first ≤ 2 ^ 60 →
    second ≤ 2 ^ 60 → count ≤ 2 ^ 60 - first →
    IsTrue (leb (length xs - count) (2 ^ 60 - second)) ↔ (ExceedsPlaces a xs → ⊥)
room-is a xs count first second is first_is second_is first_fits second_fits near = (
  (λ fits runs. elim runs [
    | inl far ↦ omega (arith, far, is, first_is, near, first_fits)
    | inr far ↦ omega (arith, far, leb-true _ _ fits, own-count xs, is, second_is, second_fits)
  ]),
  (λ none. le-leb _ _ (omega (arith, room-all a xs none Second, own-count xs, is, second_is, second_fits))),
)
