-- What is kept of the places of the second line's bits, and a report of that line in places.
use Rattle.std.specs.Prelude.{◌≡◌, ℕ, ◌+◌, ◌-◌, ◌%◌, ◌<◌, ◌≤◌, Bool, List, [], ◌∷◌, ◌++◌, length, if◌then◌else◌, Option}
use Rattle.std.specs.Prelude.{Some, None, IfSome, option_map, slice_get}
use Rattle.bus_bits.specs.Limits.{most_places}
use Rattle.bus_line.specs.Due.{begun, due_at}
use Rattle.bus_line.specs.Report.{Report, Kind, moved}
use Rattle.bus_line.specs.Shown.{reported}
use Rattle.bus_line.specs.declared.event.Event.{Event}
use Rattle.bus_line.specs.declared.event.EventKind.TheVariants as event
use Rattle.bus_line.specs.declared.line.Line.TheVariants.{First, Second}
use Rattle.bus_tap.specs.Arrival.{Arrival, own, place_of, at_places, begun_places}
use Rattle.bus_tap.specs.declared.places.BitPlaces.{BitPlaces}
use Rattle.bus_bits.specs.declared.span.Span.{Span}

-- the places of these arrivals are kept
pub record KeepsPlaces (origin : ℕ) (p : BitPlaces) (xs : List Arrival) : Type 0 where
  pub reached : p.reached ≡ origin + (length (own First xs) - 1)
  pub recent : (k : ℕ) → k < length (own Second xs) → length (own Second xs) ≤ k + 16
      → slice_get p.recent (k % 16) ≡ Some (origin + place_of xs k)
  pub opened : (k : ℕ) → begun (own Second xs) ≡ Some k → p.opened ≡ origin + place_of xs k

-- what a bit of the second line behind these arrivals decides, counted in bits of that line
abbrev pub decided_by : ℕ → List Arrival → Bool → Option Report
decided_by longest xs bit = due_at longest (own Second xs ++ bit ∷ []) (length (own Second xs))

-- and that of the first bit of the piece which the next bit of the second line, behind these arrivals, decides
abbrev pub KeepsDecided : ℕ → BitPlaces → List Arrival → Bool → Type 0
KeepsDecided origin p xs bit = (longest : ℕ) (r : Report) → decided_by longest xs bit ≡ Some r
    → (r.kind ≡ Kind.Idle → ⊥) → p.opened ≡ origin + place_of (xs ++ (Second, bit) ∷ []) r.first

-- an event of that bit becomes the report in places
abbrev pub LocatesLast : BitPlaces → Option Event → Option Event → Type 0
LocatesLast p e l = (origin longest : ℕ) (xs : List Arrival) (bit : Bool) (os : List ℕ)
    → KeepsPlaces origin p (xs ++ (Second, bit) ∷ []) → KeepsDecided origin p xs bit
    → origin + length (own First xs) ≤ most_places
    → option_map (reported os) e ≡ decided_by longest xs bit
    → option_map (reported os) l
    ≡ option_map (λ r. moved origin (at_places (xs ++ (Second, bit) ∷ []) r)) (decided_by longest xs bit)

-- the open piece of the second line, which had so many bits, in places
abbrev pub IsOpenSpan : BitPlaces → ℕ → Span → Type 0
IsOpenSpan p count span = (origin : ℕ) (xs : List Arrival) → KeepsPlaces origin p xs → count ≡ length (own Second xs)
    → origin + length (own First xs) ≤ most_places → IfSome (begun_places origin xs) (λ s. span ≡ s)

-- what becomes of the places with bit number n of the second line
pub record Notes (p q : BitPlaces) (n : ℕ) (opens : Bool) : Type 0 where
  pub here : slice_get q.recent (n % 16) ≡ Some p.reached
  pub others : (i : ℕ) → (i ≡ n % 16 → ⊥) → slice_get q.recent i ≡ slice_get p.recent i
  pub reached : q.reached ≡ p.reached
  pub opened : q.opened ≡ (if opens then p.reached else p.opened)

-- the place past that of bit `k`, which is one of the last sixteen
abbrev pub IsPast : BitPlaces → ℕ → ℕ → Type 0
IsPast p k past = (n : ℕ) → slice_get p.recent (k % 16) ≡ Some n → n ≤ most_places → past ≡ n + 1

-- the same event in places
pub record IsLocated (p : BitPlaces) (e l : Event) : Type 0 where
  pub kind : l.kind ≡ e.kind
  pub past : IsPast p (e.span.past - 1) l.span.past
  pub idle : (n : ℕ) → e.kind ≡ event.Idle → slice_get p.recent (e.span.first % 16) ≡ Some n → l.span.first ≡ n
  pub piece : (e.kind ≡ event.Idle → ⊥) → l.span.first ≡ p.opened

-- if there is one
abbrev pub AreLocated : BitPlaces → Option Event → Option Event → Type 0
AreLocated p None l = l ≡ None
AreLocated p (Some e) l = (k : Event) × (l ≡ Some k) × IsLocated p e k
