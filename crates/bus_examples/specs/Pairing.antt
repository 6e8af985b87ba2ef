-- Reports of a decoder of one's own, and which of them a conversation takes.
use Rattle.std.specs.Prelude.{◌≡◌, ℕ, List, ◌++◌, Some, map, slice_get}
use Rattle.bus_line.specs.Shown.{reported}
use Rattle.bus_line.specs.LineReport.{LineReport, line_report}
use Rattle.bus_pairing.specs.Conversation.{ConversationState, HasRoom, IsWhole, ConversationAfter}
use Rattle.bus_examples.specs.declared.pairing.Received.{Received}
use Rattle.bus_examples.specs.declared.pairing.PairFault.{PairFault}
use Rattle.bus_examples.specs.declared.pairing.PairFault.TheVariants.{ShortFrame, NoRoom}

abbrev pub line_report_of : Received → LineReport
line_report_of r = line_report r.line (reported r.octets.items r.event)

-- the conversation stands after these reports, too
abbrev pub Takes : ConversationState → List Received → ConversationState → Type 0
Takes old reports new = (hs : List LineReport) → ConversationAfter old hs
    → ConversationAfter new (hs ++ map line_report_of reports)

-- how many reports were taken
abbrev pub taken_of : PairFault → ℕ
taken_of (ShortFrame taken) = taken
taken_of (NoRoom taken) = taken

-- why the next one was not
abbrev pub IsRefused : PairFault → List Received → ConversationState → Type 0
IsRefused (ShortFrame taken) reports j =
    (r : Received) × (slice_get reports taken ≡ Some r) × ¬ (IsWhole r.event.kind r.octets.items)
IsRefused (NoRoom taken) reports j = ¬ (HasRoom j)
