-- The lists of bits after which a decoder may stand.
use Rattle.std.specs.Prelude.{◌≡◌, ℕ, ◌+◌, ◌-◌, ◌≤◌, Bool, List, [], ◌∷◌, ◌++◌, length, take, Option, Some}
use Rattle.std.specs.Option.{option_map, option_to_list}
use Rattle.bus_bits.specs.Octet.{octets}
use Rattle.bus_fcs.specs.Check.{CheckView}
use Rattle.bus_line.specs.Due.{current, due_at, placed}
use Rattle.bus_line.specs.Report.{Report, moved}
use Rattle.bus_line.specs.Shown.{reported}
use Rattle.bus_line.specs.declared.event.Event.{Event}
use Rattle.bus_line.specs.LineState.{LineState}
use Rattle.bus_line.specs.declared.piece.Piece.{Piece}
use Rattle.bus_line.specs.declared.piece.Piece.TheVariants as piece
use Rattle.bus_line.specs.Internal.Tracks.{Tracks}

-- a decoder may stand after the bits b
abbrev pub After : {C : Type 0} → CheckView C → LineState C → List Bool → Type 0
After view d b = Tracks view d b (current b)

-- the report that is due at place `i` of the list b, where the first bit has the decoder's origin
abbrev pub due_of : {C : Type 0} → LineState C → List Bool → ℕ → Option Report
due_of d b i = option_map (moved d.origin) (due_at d.longest b i)

-- with these bits this report comes to those so far, or none
abbrev pub AddsReport : {C : Type 0} → CheckView C → LineState C → List Bool → Option Report → Type 0
AddsReport view d bits report =
    (b : List Bool) → After view d b
    → placed d.origin d.longest (b ++ bits) ≡ placed d.origin d.longest b ++ option_to_list report

-- a frame that is answered stands in the buffer
abbrev pub ShowsHeld : {C : Type 0} → LineState C → Option Piece → Type 0
ShowsHeld d (Some (piece.Frame span octets)) = octets.now ≡ d.octets
ShowsHeld d answer = Unit {0}

-- a bit leads from old to new, with this answer
pub record Pushed {C : Type 0} (view : CheckView C) (old : LineState C) (bit : Bool)
    (answer : Option Piece) (new : LineState C) : Type 0 where
  pub after : (b : List Bool) → After view old b → After view new (b ++ bit ∷ [])
  pub longest : new.longest ≡ old.longest
  pub origin : new.origin ≡ old.origin
  pub place : new.place ≡ old.place + 1
  pub held : ShowsHeld new answer

-- these bits lead from old to new
pub record Led {C : Type 0} (view : CheckView C) (old : LineState C) (bits : List Bool)
    (new : LineState C) : Type 0 where
  pub after : (b : List Bool) → After view old b → After view new (b ++ bits)
  pub longest : new.longest ≡ old.longest
  pub origin : new.origin ≡ old.origin
  pub place : new.place ≡ old.place + length bits

-- these bits lead from old to new, and decide this report and no other; where it is none they decide nothing
pub record Decides {C : Type 0} (view : CheckView C) (old : LineState C) (bits : List Bool)
    (report : Option Report) (new : LineState C) : Type 0 where
  pub leads : Led view old bits new
  pub says : AddsReport view old bits report

-- these bits decide no report
abbrev pub DecideNothing : {C : Type 0} → CheckView C → LineState C → List Bool → Type 0
DecideNothing view d bits =
    (b : List Bool) → After view d b → placed d.origin d.longest (b ++ bits) ≡ placed d.origin d.longest b

-- these bits lead from old to new; the last of them decides this report, if it is one, and no other decides a report
pub record Advances {C : Type 0} (view : CheckView C) (old : LineState C) (bits : List Bool)
    (report : Option Report) (new : LineState C) : Type 0 where
  pub decides : Decides view old bits report new
  pub before : DecideNothing view old (take (length bits - 1) bits)

-- the same of an event, of which the decoder holds a frame's octets
abbrev pub AdvancesWith : {C : Type 0} → CheckView C → LineState C → List Bool → Option Event → LineState C → Type 0
AdvancesWith view old bits event new = Advances view old bits (option_map (reported new.octets) event) new

-- a frame has no more octets than the longest and its check
abbrev pub FitsFrame : ℕ → Option Piece → Type 0
FitsFrame longest (Some (piece.Frame span octets)) = (length octets.now ≤ longest + 2) × (longest ≤ 256)
FitsFrame longest answer = Unit {0}
