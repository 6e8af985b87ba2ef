-- Many bits of the second line at once, and what is kept of their places.
use Rattle.std.specs.Prelude.{◌≡◌, ℕ, ◌+◌, ◌-◌, ◌%◌, ◌<◌, ◌≤◌, Bool, List, ◌++◌, length, take, drop, Option, Some}
use Rattle.std.specs.Prelude.{slice_get}
use Rattle.std.specs.Option.{option_map}
use Rattle.bus_bits.specs.Bits.{bits_from}
use Rattle.bus_fcs.specs.Check.{CheckView}
use Rattle.bus_line.specs.After.{AdvancesWith, After, due_of}
use Rattle.bus_line.specs.Due.{begun}
use Rattle.bus_line.specs.LineState.{LineState}
use Rattle.bus_line.specs.Shown.{reported}
use Rattle.bus_line.specs.declared.consumed.Consumed.{Consumed}
use Rattle.bus_line.specs.declared.event.Event.{Event}
use Rattle.bus_line.specs.declared.event.EventKind.TheVariants as event
use Rattle.bus_tap.specs.declared.places.BitPlaces.{BitPlaces}
use Rattle.bus_clocks.specs.declared.parted.Parted.{Parted}
use Rattle.bus_clocks.specs.declared.stretch.Standing.{Standing}

-- the place of a bit of the second line after so many bits of the block's first line
abbrev pub place_after : Standing → ℕ → ℕ
place_after s before = s.origin + (s.taken + (before - s.ahead) - 1)

-- the number of the first bit of the piece whose report is decided, and else of the piece that has begun
pub record Opens {C : Type 0} (view : CheckView C) (d : LineState C) (decided : Option Event) (o : Option ℕ)
    : Type 0 where
  pub piece : (e : Event) → decided ≡ Some e → (e.kind ≡ event.Idle → ⊥) → o ≡ Some e.span.first
  pub begun : ((e : Event) → decided ≡ Some e → e.kind ≡ event.Idle) → (b : List Bool) → After view d b
      → o ≡ option_map (λ k. d.origin + k) (begun b)

-- what becomes of the places with bits of the second line of which the first has this number, and each comes after so
-- many bits of the block's first line
pub record NotesMany (p q : BitPlaces) (number : ℕ) (before : List ℕ) (opening : Option ℕ) (s : Standing)
    : Type 0 where
  pub reached : (c : ℕ) → slice_get before (length before - 1) ≡ Some c → q.reached ≡ place_after s c
  pub recent : (i c : ℕ) → slice_get before i ≡ Some c → length before ≤ i + 16
      → slice_get q.recent ((number + i) % 16) ≡ Some (place_after s c)
  pub others : (k : ℕ) → k < number → number + length before ≤ k + 16
      → slice_get q.recent (k % 16) ≡ slice_get p.recent (k % 16)
  pub opened : (i c : ℕ) → opening ≡ Some (number + i) → slice_get before i ≡ Some c → q.opened ≡ place_after s c
  pub kept : ((k : ℕ) → opening ≡ Some k → k < number) → q.opened ≡ p.opened

-- these bits of a block's second line, from this one on, lead its decoder on; the last of them decides the event, if
-- there is one, and no other decides a report; their places are noted
pub record TakesNoted {C : Type 0} (view : CheckView C) (old : LineState C) (p : BitPlaces) (parted : Parted)
    (from : ℕ) (s : Standing) (scanned : Consumed) (new : LineState C) (q : BitPlaces)
    : Type 0 where
  pub count : (1 ≤ scanned.count) × (scanned.count ≤ length parted.second - from)
  pub octets : List ℕ
  pub holds : bits_from octets 0 (length parted.second) ≡ parted.second
  pub answer : (b : List Bool) → After view old b → option_map (reported new.octets) scanned.event
      ≡ due_of old (b ++ bits_from octets from scanned.count) (length b + scanned.count - 1)
  pub advances : AdvancesWith view old (bits_from octets from scanned.count) scanned.event new
  pub opening : Option ℕ
  pub opens : Opens view new scanned.event opening
  pub notes : NotesMany p q old.place (take scanned.count (drop from parted.before)) opening s
