-- Bits that were taken, of which the last may decide a report.
use Rattle.std.specs.Prelude.{◌≡◌, ℕ, ◌+◌, ◌-◌, ◌≤◌, ◌<◌, Bool, true, false, List, [], ◌∷◌, ◌++◌, length, Option, None}
use Rattle.std.specs.Prelude.{slice_range}
use Rattle.std.specs.Option.{option_map}
use Rattle.bus_fcs.specs.Check.{CheckView}
use Rattle.bus_line.specs.After.{After, DecideNothing, Decides, due_of}
use Rattle.bus_line.specs.Due.{Mark, FlagAt, class_of, current, piece_report, first_of}
use Rattle.bus_line.specs.Report.{Abort, Report, moved}
use Rattle.bus_line.specs.Shown.{kind_with, reported}
use Rattle.bus_line.specs.Words.{first_in}
use Rattle.bus_line.specs.declared.decoder_words.DecoderWords.{DecoderWords}
use Rattle.bus_line.specs.declared.event.Event.{Event}
use Rattle.bus_line.specs.declared.event.EventKind.{EventKind}
use Rattle.bus_line.specs.LineState.{LineState}
use Rattle.bus_line.specs.Internal.Settled.{HasNoStop}
use Rattle.bus_line.specs.Internal.Tracks.{Tracks}

-- these bits were taken and settled; what the last decides is still to be found, and the others are to decide nothing
pub record ConsumesBits {C : Type 0} (view : CheckView C) (old : LineState C) (bits : List Bool)
    (new : LineState C) : Type 0 where
  pub longest : new.longest ≡ old.longest
  pub origin : new.origin ≡ old.origin
  pub place : new.place ≡ old.place + length bits
  pub tracks : (b : List Bool) → After view old b → HasNoStop b bits (length bits - 1)
      → Tracks view new (b ++ bits) (current b)

-- these bits lead from old to new; those before the last decide nothing, and what the last decides is still to be found
pub record AdvancesTo {C : Type 0} (view : CheckView C) (old : LineState C) (bits : List Bool)
    (new : LineState C) : Type 0 where
  pub front : List Bool
  pub last : Bool
  pub all : bits ≡ front ++ last ∷ []
  pub longest : new.longest ≡ old.longest
  pub origin : new.origin ≡ old.origin
  pub place : new.place ≡ old.place + length bits
  pub tracks : (b : List Bool) → After view old b
      → Tracks view new ((b ++ front) ++ last ∷ []) (current (b ++ front))
  pub before : DecideNothing view old front

-- these bits lead from old to new, and decide nothing, but for the last where that is a stop
abbrev pub AdvancesToStop : {C : Type 0} → CheckView C → LineState C → List Bool → Bool → LineState C →
    Type 0
AdvancesToStop view old bits true new = AdvancesTo view old bits new
AdvancesToStop view old bits false new = Decides view old bits None new

-- what the last bit decides is this event, or nothing, and leads from old to new
pub record DecidesLast {C : Type 0} (view : CheckView C) (old : LineState C) (event : Option Event)
    (new : LineState C) : Type 0 where
  pub longest : new.longest ≡ old.longest
  pub origin : new.origin ≡ old.origin
  pub place : new.place ≡ old.place
  pub answer : (b : List Bool) (bit : Bool) → Tracks view old (b ++ bit ∷ []) (current b)
      → option_map (reported new.octets) event ≡ due_of old (b ++ bit ∷ []) (length b)
  pub after : (b : List Bool) (bit : Bool) → Tracks view old (b ++ bit ∷ []) (current b)
      → After view new (b ++ bit ∷ [])

-- the piece, if it is not empty, that a flag closes which ends with this bit after b
abbrev pub closed_piece : ℕ → List Bool → Bool → Option Report
closed_piece longest b bit =
    piece_report (λ p. class_of longest (slice_range (b ++ bit ∷ []) (p + 8) (length b - 7))) (current b) (length b - 7)

-- the event is the piece, if it is not empty, that a flag at place `past` closes with the last bit; if that is a frame,
-- these are its octets
abbrev pub Closes : {C : Type 0} → CheckView C → LineState C → List ℕ → ℕ → Option Event → Type 0
Closes view d octets past event =
    (b : List Bool) (bit : Bool) → Tracks view d (b ++ bit ∷ []) (current b) → 7 ≤ length b
    → past ≡ d.origin + (length b - 7)
    → option_map (reported octets) event ≡ option_map (moved d.origin) (closed_piece d.longest b bit)

-- and this is what that piece is
abbrev pub ClosesAs : {C : Type 0} → CheckView C → LineState C → List ℕ → EventKind → Type 0
ClosesAs view d octets kind =
    (b : List Bool) (bit : Bool) (p : ℕ) → Tracks view d (b ++ bit ∷ []) (current b) → current b ≡ FlagAt p
    → p + 15 < length b
    → kind_with octets kind ≡ class_of d.longest (slice_range (b ++ bit ∷ []) (p + 8) (length b - 7))

-- the event is the piece, if there is one and it is not empty, that an abort mark at place `past` ends
abbrev pub Aborts : DecoderWords → ℕ → Option Event → Type 0
Aborts w past event =
    (octets : List ℕ) (mark : Mark) (end : ℕ) → first_in w.settles_at ≡ first_of w.origin mark → past ≡ w.origin + end
    → option_map (reported octets) event ≡ option_map (moved w.origin) (piece_report (λ p. Abort) mark end)
