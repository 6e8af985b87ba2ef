-- Bits on one line, and what a conversation makes of them.
use Rattle.std.specs.Prelude.{◌≡◌, ℕ, ◌+◌, ◌-◌, ◌≤◌, ◌^◌, Bool, true, false, List, ◌++◌, length, map, Option, Some}
use Rattle.std.specs.Prelude.{None}
use Rattle.std.specs.Prelude.{option_map}
use Rattle.std.specs.List.{sum_by}
use Rattle.std.specs.Option.{option_to_list}
use Rattle.bus_fcs.specs.Check.{CheckView}
use Rattle.bus_line.specs.Report.{Report, moved}
use Rattle.bus_line.specs.Due.{due_at, placed}
use Rattle.bus_line.specs.Shown.{reported}
use Rattle.bus_line.specs.declared.event.Event.{Event}
use Rattle.bus_line.specs.Ledger.{octet_count}
use Rattle.bus_line.specs.LineState.{LineState}
use Rattle.bus_line.specs.After.{Advances, After, Led}
use Rattle.bus_line.specs.LineReport.{LineReport, line_report}
use Rattle.bus_pairing.specs.Seen.{SeenReport, seen}
use Rattle.bus_pairing.specs.Shown.{found_on}
use Rattle.bus_pairing.specs.Ledger.{copied_of}
use Rattle.bus_pairing.specs.Conversation.{ConversationState, ConversationAfter}
use Rattle.bus_pairing.specs.declared.seen_event.SeenEvent.{SeenEvent}
use Rattle.bus_line.specs.declared.line.Line.{Line}

-- a decoder stands after some list of bits
pub record Stands {C : Type 0} (view : CheckView C) (d : LineState C) : Type 0 where
  pub bits : List Bool
  pub after : After view d bits

-- the last bit that a decoder took decided this event, or nothing
pub record Decided {C : Type 0} (d : LineState C) (event : Option Event) : Type 0 where
  pub bits : List Bool
  pub due : option_map (reported d.octets) event
      ≡ option_map (moved d.origin) (due_at d.longest bits (length bits - 1))

-- what the last report was found to be, if the last bits decided it
abbrev pub newest : Bool → SeenEvent → Option SeenEvent
newest true last = Some last
newest false last = None

-- and as it is seen
abbrev pub told_on : Option Line → List ℕ → Bool → SeenEvent → Option SeenReport
told_on line octets is_decided last = option_map (found_on line octets) (newest is_decided last)

-- a report of a line or none, as one of the bus
abbrev pub line_reports_of : Option Line → Option Report → List LineReport
line_reports_of line o = map (line_report line) (option_to_list o)

-- these bits on a line lead a decoder and a conversation on; the last of them decides what is told, and no other
-- decides a report
pub record Decodes {C : Type 0} (view : CheckView C) (line : Option Line) (old : LineState C)
    (before : ConversationState) (bits : List Bool) (told : Option SeenReport)
    (new : LineState C) (after : ConversationState) : Type 0 where
  pub report : Option Report
  pub advances : Advances view old bits report new
  pub keeps : (hs : List LineReport) → ConversationAfter before hs
      → ConversationAfter after (hs ++ line_reports_of line report)
  pub seen : (hs : List LineReport) → ConversationAfter before hs
      → seen before.dictionary (hs ++ line_reports_of line report) ≡ seen before.dictionary hs ++ option_to_list told
  pub dictionary : after.dictionary ≡ before.dictionary
  pub depth : after.depth ≡ before.depth

-- these bits on a line lead a decoder and a conversation on, and what is seen at all of them was told
pub record DecodesMany {C : Type 0} (view : CheckView C) (line : Option Line) (old : LineState C)
    (before : ConversationState) (bits : List Bool) (new : LineState C) (after : ConversationState)
    (is_told : List SeenReport → Type 0) : Type 0 where
  pub reports : List Report
  pub seen_now : List SeenReport
  pub led : Led view old bits new
  pub grows : (b : List Bool) → After view old b
      → placed old.origin old.longest (b ++ bits) ≡ placed old.origin old.longest b ++ reports
  pub keeps : (hs : List LineReport) → ConversationAfter before hs
      → ConversationAfter after (hs ++ map (line_report line) reports)
  pub seen : (hs : List LineReport) → ConversationAfter before hs
      → seen before.dictionary (hs ++ map (line_report line) reports) ≡ seen before.dictionary hs ++ seen_now
  pub dictionary : after.dictionary ≡ before.dictionary
  pub depth : after.depth ≡ before.depth
  pub few : length seen_now ≤ length bits
  pub told : is_told seen_now

-- a decoder stands after some list of bits, and a conversation after what is reported on its line in these and after no
-- more of another line than 2^60 bits may hold
pub record KeepsUp {C : Type 0} (view : CheckView C) (d : LineState C) (j : ConversationState)
    : Type 0 where
  pub bits : List Bool
  pub after : After view d bits
  pub decoded : List LineReport
  pub keeps : ConversationAfter j decoded
  pub copied : copied_of decoded ≤ sum_by octet_count (placed d.origin d.longest bits) + 2 ^ 60
  pub count : length decoded ≤ length (placed d.origin d.longest bits) + 2 ^ 60
