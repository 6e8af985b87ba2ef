-- The lists of pairs of bits after which an analyser of two lines may stand, and what more pairs do.
use Rattle.std.specs.Prelude.{◌≡◌, Bool, List}
use Rattle.bus_fcs.specs.Check.{CheckView}
use Rattle.bus_line.specs.LineState.{LineState}
use Rattle.bus_line.specs.After.{After}
use Rattle.bus_dictionary.specs.Dictionary.{longest_of}
use Rattle.bus_line.specs.LineReport.{LineReport, firsts, seconds, merged}
use Rattle.bus_pairing.specs.Seen.{SeenReport, seen}
use Rattle.bus_watch.specs.Watch.{Watch, AdvancesWatch}
use Rattle.bus_pairing.specs.Conversation.{ConversationState, ConversationAfter}

-- what contracts see of an analyser of two lines
pub record PairState (C : Type 0) : Type 0 where
  pub first : LineState C
  pub second : LineState C
  pub conversation : ConversationState

-- the reports of both lines, by the dictionary's longest frame
abbrev pub pair_reports : {C : Type 0} → PairState C → List (Bool × Bool) → List LineReport
pair_reports a ps = merged a.first.origin (longest_of a.conversation.dictionary) ps

-- what is seen of them
abbrev pub seen_after_pairs : {C : Type 0} → PairState C → List (Bool × Bool) → List SeenReport
seen_after_pairs a ps = seen a.conversation.dictionary (pair_reports a ps)

-- an analyser of two lines may stand after these pairs
pub record IsAfterPairs {C : Type 0} (view : CheckView C) (a : PairState C)
    (ps : List (Bool × Bool)) : Type 0 where
  pub first : After view a.first (firsts ps)
  pub second : After view a.second (seconds ps)
  pub origin : a.second.origin ≡ a.first.origin
  pub longest : a.first.longest ≡ longest_of a.conversation.dictionary
  pub longest_second : a.second.longest ≡ longest_of a.conversation.dictionary
  pub conversation : ConversationAfter a.conversation (pair_reports a ps)

-- two lines
abbrev pub two_lines : {C : Type 0} → CheckView C → Watch (PairState C) (Bool × Bool)
two_lines view = record {
  is_after = IsAfterPairs view;
  dictionary = λ a. a.conversation.dictionary;
  depth = λ a. a.conversation.depth;
  origin = λ a. a.first.origin;
  place = λ a. a.first.place;
  reports = λ origin longest ps. merged origin longest ps;
}

-- these pairs lead from old to new, and this is seen at them
abbrev pub AdvancesPairs : {C : Type 0} → CheckView C → PairState C → List (Bool × Bool) → List SeenReport
    → PairState C → Type 0
AdvancesPairs view old pairs told new = AdvancesWatch (two_lines view) old pairs told new
