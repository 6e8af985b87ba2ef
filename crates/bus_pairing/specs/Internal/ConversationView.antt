-- A conversation's fields, as they are seen, and what always holds of them.
use Rattle.std.specs.Prelude.{◌≡◌, ◌≤◌, length, map}
use Rattle.bus_pairing.specs.History.{kept_pair}
use Rattle.bus_pairing.specs.Conversation.{ConversationState}
use Rattle.bus_pairing.specs.Internal.Counted.{AreAtMost}
use Rattle.bus_pairing.specs.declared.conversation.Conversation.TheInside.{Inside}

abbrev pub conversation_state : Inside → ConversationState
conversation_state j = record {
  dictionary = j.dictionary;
  depth = j.history.capacity;
  history = map kept_pair j.history.items;
  waiting = j.pairing.waiting;
  tally = j.tally;
  last = j.last;
  copied = j.copied;
  handled = j.spent.handled;
}

-- each station has its counts, none above the steps, and the history room for a frame
pub record IsConversation (j : Inside) : Type 0 where
  pub stations : length j.tally ≡ 256
  pub counts : AreAtMost j.spent.handled j.tally
  pub depth : 1 ≤ j.history.capacity
