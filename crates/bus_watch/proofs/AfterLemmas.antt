-- More bits lead an analyser on.
use Rattle.std.proofs.Common.{◌≡◌, Bool, List, [], ◌∷◌, ◌++◌, Option, Some, None, sym, ap, ◌∙◌}
use Rattle.std.specs.Option.{option_to_list}
use Rattle.bus_bits.specs.declared.spent.Spent.{Spent}
use Rattle.bus_fcs.specs.Check.{CheckView}
use Rattle.bus_line.specs.Report.{Report}
use Rattle.bus_line.specs.Due.{reports, placed}
use Rattle.bus_line.specs.Ledger.{IsLedger as IsLineLedger}
use Rattle.bus_line.specs.LineState.{LineState}
use Rattle.bus_line.specs.After.{Advances}
use Rattle.bus_dictionary.specs.Dictionary.{longest_of}
use Rattle.bus_line.specs.LineReport.{LineReport, line_report}
use Rattle.bus_pairing.specs.Seen.{SeenReport, seen_of, seen}
use Rattle.bus_line.specs.declared.line.Line.{Line}
use Rattle.bus_pairing.specs.Conversation.{ConversationState, ConversationAfter}
use Rattle.bus_watch.specs.Decodes.{Decodes}
use Rattle.bus_watch.specs.After.{AnalyserState, IsAfter}
use Rattle.bus_pairing.specs.Ledger.{IsAnalyserLedger}
use Rattle.bus_pairing.proofs.SeenLemmas.{seen-more}
use Rattle.bus_watch.proofs.AnalyserViewLemmas.{octets-moved, steps-moved, reports-octets, reports-steps}

-- bits the last of which decides a report; what is seen of it was kept
pub decodes-some : {C : Type 0} (view : CheckView C) (on : Option Line) (old new : LineState C)
    (j k : ConversationState) (bits : List Bool) (report : Report) (told : Option SeenReport)
    → Advances view old bits (Some report) new
    → ((hs : List LineReport) → ConversationAfter j hs → ConversationAfter k (hs ++ line_report on report ∷ []))
    → ((hs : List LineReport) → ConversationAfter j hs → told ≡ Some (seen_of j.dictionary hs (line_report on report)))
    → k.dictionary ≡ j.dictionary → k.depth ≡ j.depth
    → Decodes view on old j bits told new k
decodes-some view on old new j k bits report told advances keeps says dictionary depth = record {
  report = Some report;
  advances = advances;
  keeps = keeps;
  seen = λ hs kept.
      seen-more j.dictionary hs (line_report on report)
      ∙ ap (λ o. seen j.dictionary hs ++ option_to_list o) (sym (says hs kept));
  dictionary = dictionary;
  depth = depth;
}

-- the steps of the decoder, and those of the conversation
pub ledger-is : {C : Type 0} (view : CheckView C) (a : AnalyserState C) (b : List Bool)
    (d j : Spent) → IsAfter view a b
    → IsLineLedger view.cost a.decoder.longest b d → j.copied ≡ a.conversation.copied → j.handled
    ≡ a.conversation.handled
    → IsAnalyserLedger view.cost (longest_of a.conversation.dictionary) b
    (record d { copied = j.copied; handled = j.handled })
ledger-is view a b d j reached ledger copied handled =
    let rs = placed a.decoder.origin (longest_of a.conversation.dictionary) b in
    record {
      bits = ledger.bits;
      settled = ledger.settled;
      filled = rw (← reached.longest) ledger.filled;
      paid = rw (← reached.longest) ledger.paid;
      kept = copied ∙ reached.conversation.copied ∙ reports-octets None rs
          ∙ octets-moved a.decoder.origin (reports (longest_of a.conversation.dictionary) b);
      reported = handled ∙ reached.conversation.handled ∙ reports-steps None rs
          ∙ steps-moved a.decoder.origin (reports (longest_of a.conversation.dictionary) b);
    }
