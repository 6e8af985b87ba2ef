-- Two decoders of lines with a clock each, with what is kept of the second line's places.
use Rattle.std.specs.Prelude.{◌≡◌, ℕ, ◌⊎◌, Bool, true, false, List, [], ◌∷◌, ◌++◌, length, Option, Some}
use Rattle.std.specs.Option.{option_map}
use Rattle.bus_fcs.specs.Check.{CheckView}
use Rattle.bus_line.specs.After.{After, Advances}
use Rattle.bus_line.specs.Due.{begun, due_at}
use Rattle.bus_line.specs.Report.{moved}
use Rattle.bus_line.specs.Shown.{reported}
use Rattle.bus_line.specs.Words.{LineState}
use Rattle.bus_line.specs.declared.event.Event.{Event}
use Rattle.bus_line.specs.LineReport.{LineReport}
use Rattle.bus_line.specs.declared.line.Line.TheVariants.{First, Second}
use Rattle.bus_tap.specs.Arrival.{Arrival, own, decides}
use Rattle.bus_tap.specs.Places.{KeepsPlaces}
use Rattle.bus_tap.specs.declared.places.BitPlaces.{BitPlaces}

-- a bit leads a decoder from old to new, and decides this event, if it is one
pub record DecodesBit {C : Type 0} (view : CheckView C) (old : LineState C) (bit : Bool) (event : Option Event)
    (new : LineState C) : Type 0 where
  pub advances : Advances view old (bit ∷ []) (option_map (reported new.octets) event) new
  pub answer : (b : List Bool) → After view old b → option_map (reported new.octets) event
      ≡ option_map (moved old.origin) (due_at old.longest (b ++ bit ∷ []) (length b))

-- whether a piece begins with the last bit
abbrev pub BeginsAt : Bool → List Bool → Bool → Type 0
BeginsAt opens b bit =
    ((opens ≡ true) × (begun (b ++ bit ∷ []) ≡ Some (length b)))
    ⊎ ((opens ≡ false) × (begun (b ++ bit ∷ []) ≡ Some (length b) → ⊥))

-- of a decoder whose last bit has this number
abbrev pub OpensWith : {C : Type 0} → CheckView C → LineState C → ℕ → Bool → Type 0
OpensWith view d number opens = (b : List Bool) (bit : Bool) → After view d (b ++ bit ∷ []) → d.origin ≡ 0
    → number ≡ length b → BeginsAt opens b bit

-- two decoders, with places
pub record LinesState (C : Type 0) : Type 0 where
  pub first : LineState C
  pub second : LineState C
  pub places : BitPlaces

-- they may stand after these arrivals; on the second line its own bits are counted, from 0
pub record AreAfter {C : Type 0} (view : CheckView C) (l : LinesState C) (xs : List Arrival) : Type 0 where
  pub first : After view l.first (own First xs)
  pub second : After view l.second (own Second xs)
  pub origin : l.second.origin ≡ 0
  pub longest : l.second.longest ≡ l.first.longest
  pub places : KeepsPlaces l.first.origin l.places xs

-- an arrival leads from old to new, and decides these reports, of which there is at most one
pub record PushesLines {C : Type 0} (view : CheckView C) (old : LinesState C) (x : Arrival)
    (decided : List LineReport) (new : LinesState C) : Type 0 where
  pub after : (xs : List Arrival) → AreAfter view old xs → AreAfter view new (xs ++ x ∷ [])
  pub decides : (xs : List Arrival) → AreAfter view old xs
      → decides old.first.origin old.first.longest xs x ≡ decided
  pub origin : new.first.origin ≡ old.first.origin
  pub longest : new.first.longest ≡ old.first.longest
