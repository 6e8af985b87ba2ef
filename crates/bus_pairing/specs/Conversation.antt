-- What is kept of reports: what contracts see of a conversation, and the lists of reports after which it may stand.
use Rattle.std.specs.Prelude.{◌≡◌, ℕ, ◌+◌, ◌<◌, ◌≤◌, ◌^◌, List, [], ◌∷◌, ◌++◌, length, Option, Some, slice_get}
use Rattle.bus_line.specs.declared.event.EventKind.{EventKind}
use Rattle.bus_line.specs.declared.event.EventKind.TheVariants as event
use Rattle.bus_dictionary.specs.Entry.{FrameType}
use Rattle.bus_line.specs.LineReport.{LineReport}
use Rattle.bus_pairing.specs.Talk.{pending}
use Rattle.bus_pairing.specs.Seen.{SeenReport, seen_of}
use Rattle.bus_pairing.specs.History.{KeptFrame, history, tally}
use Rattle.bus_pairing.specs.Ledger.{handled_of, copied_of}
use Rattle.bus_pairing.specs.declared.counts.Counts.{Counts}
use Rattle.bus_pairing.specs.declared.seen_event.SeenEvent.{SeenEvent}
use Rattle.bus_pairing.specs.declared.pending.Pending.{Pending}

-- what contracts see of a conversation; `last` is what its last report was found to be, and says nothing before the
-- first
pub record ConversationState : Type 0 where
  pub dictionary : List FrameType
  pub depth : ℕ
  pub history : List KeptFrame
  pub waiting : Option Pending
  pub tally : List Counts
  pub last : SeenEvent
  pub copied : ℕ
  pub handled : ℕ

-- the conversation may stand after these reports
pub record ConversationAfter (j : ConversationState) (hs : List LineReport) : Type 0 where
  pub history : j.history ≡ history j.depth hs
  pub waiting : j.waiting ≡ pending j.dictionary hs
  pub tally : (station : ℕ) → station < 256 → slice_get j.tally station ≡ Some (tally j.dictionary hs station)
  pub copied : j.copied ≡ copied_of hs
  pub handled : j.handled ≡ handled_of hs

-- one report more leads from one waiting command, or none, to another, and this is found of it
pub record AdvancesPairing (d : List FrameType) (old : Option Pending) (report : LineReport) (found : SeenReport)
    (new : Option Pending) : Type 0 where
  pub keeps : (hs : List LineReport) → old ≡ pending d hs → new ≡ pending d (hs ++ report ∷ [])
  pub says : (hs : List LineReport) → old ≡ pending d hs → found ≡ seen_of d hs report

-- the conversation took one report more, and found this of it
pub record AdvancesConversation (old : ConversationState) (report : LineReport) (found : SeenReport)
    (new : ConversationState) : Type
    0 where
  pub keeps : (hs : List LineReport) → ConversationAfter old hs → ConversationAfter new (hs ++ report ∷ [])
  pub says : (hs : List LineReport) → ConversationAfter old hs → found ≡ seen_of old.dictionary hs report
  pub dictionary : new.dictionary ≡ old.dictionary
  pub depth : new.depth ≡ old.depth

-- the steps of a report more can be counted
pub record HasRoom (j : ConversationState) : Type 0 where
  pub copied : j.copied + 258 < 2 ^ 64
  pub handled : j.handled + 6 < 2 ^ 64

-- a frame has station, control and check
abbrev pub IsWhole : EventKind → List ℕ → Type 0
IsWhole event.Frame octets = 4 ≤ length octets
IsWhole kind octets = Unit {0}
