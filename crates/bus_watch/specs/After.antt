-- The lists of bits after which an analyser may stand, and what more bits do.
use Rattle.std.specs.Prelude.{◌≡◌, Bool, List}
use Rattle.bus_fcs.specs.Check.{CheckView}
use Rattle.bus_line.specs.Due.{placed}
use Rattle.bus_line.specs.LineState.{LineState}
use Rattle.bus_line.specs.After.{After}
use Rattle.bus_dictionary.specs.Dictionary.{longest_of}
use Rattle.bus_line.specs.LineReport.{LineReport, of_line}
use Rattle.bus_pairing.specs.Seen.{SeenReport, seen}
use Rattle.bus_watch.specs.Watch.{Watch, AdvancesWatch}
use Rattle.bus_pairing.specs.Conversation.{ConversationState, ConversationAfter}

-- what contracts see of an analyser
pub record AnalyserState (C : Type 0) : Type 0 where
  pub decoder : LineState C
  pub conversation : ConversationState

-- the reports of the bits b of its line, by its dictionary's longest frame
abbrev pub line_reports : {C : Type 0} → AnalyserState C → List Bool → List LineReport
line_reports a b = of_line (placed a.decoder.origin (longest_of a.conversation.dictionary) b)

-- what is seen of them
abbrev pub seen_after : {C : Type 0} → AnalyserState C → List Bool → List SeenReport
seen_after a b = seen a.conversation.dictionary (line_reports a b)

-- an analyser may stand after the bits b
pub record IsAfter {C : Type 0} (view : CheckView C) (a : AnalyserState C)
    (b : List Bool) : Type 0 where
  pub decoder : After view a.decoder b
  pub longest : a.decoder.longest ≡ longest_of a.conversation.dictionary
  pub conversation : ConversationAfter a.conversation (line_reports a b)

-- one line
abbrev pub one_line : {C : Type 0} → CheckView C → Watch (AnalyserState C) Bool
one_line view = record {
  is_after = IsAfter view;
  dictionary = λ a. a.conversation.dictionary;
  depth = λ a. a.conversation.depth;
  origin = λ a. a.decoder.origin;
  place = λ a. a.decoder.place;
  reports = λ origin longest b. of_line (placed origin longest b);
}

-- these bits lead from old to new, and this is seen at them
abbrev pub AdvancesAnalyser : {C : Type 0} → CheckView C → AnalyserState C → List Bool → List SeenReport
    → AnalyserState C → Type 0
AdvancesAnalyser view old bits told new = AdvancesWatch (one_line view) old bits told new
