-- A report, and what a conversation makes of it.
use Rattle.std.specs.Prelude.{◌≡◌, List, ◌++◌, Option}
use Rattle.std.specs.Option.{option_to_list}
use Rattle.bus_line.specs.LineReport.{LineReport}
use Rattle.bus_pairing.specs.Seen.{SeenReport, seen}
use Rattle.bus_pairing.specs.Conversation.{ConversationState, ConversationAfter}

-- a report, or none, leads a conversation from old to new, and this is seen of it
pub record AdvancesConversationBy (old : ConversationState) (decided : List LineReport) (found : Option SeenReport)
    (new : ConversationState)
    : Type 0 where
  pub keeps : (hs : List LineReport) → ConversationAfter old hs → ConversationAfter new (hs ++ decided)
  pub seen : (hs : List LineReport) → ConversationAfter old hs
      → seen old.dictionary (hs ++ decided) ≡ seen old.dictionary hs ++ option_to_list found
  pub dictionary : new.dictionary ≡ old.dictionary
  pub depth : new.depth ≡ old.depth
