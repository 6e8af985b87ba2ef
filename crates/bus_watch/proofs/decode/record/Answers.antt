use Rattle.std.proofs.Common.{◌≡◌, ◌-◌, List, ℕ, length, Some, true, sym, ap, subst}
use Rattle.std.specs.Option.{option_map}
use Rattle.bus_line.specs.After.{Advances}
use Rattle.bus_line.specs.Due.{due_at}
use Rattle.bus_line.specs.Report.{moved}
use Rattle.bus_line.specs.Shown.{reported}
use Rattle.bus_line.specs.LineReport.{line_report}
use Rattle.bus_pairing.specs.Conversation.{AdvancesConversation}
use Rattle.bus_pairing.specs.Shown.{found_on}
use Rattle.bus_watch.specs.Decodes.{told_on}
use Rattle.bus_watch.proofs.AfterLemmas.{decodes-some}
use Rattle.bus_watch.proofs.AnalyserViewLemmas.{whole}
use Rattle.bus_watch.proofs.decode.record.Goals as goal

pub add_report-requires-clause-whole : goal.add_report-requires-clause-whole
add_report-requires-clause-whole g c =
    let decided = c.requires.decided in
    let d = c.args.decoder.now in
    let i = length decided.bits - 1 in
    let due = option_map (moved d.origin) (due_at d.longest decided.bits i) in
    whole d.longest d.origin decided.bits i c.octets.result.now c.in-Some.event c.reports_are.ensures.due
    c.frame_is_spelled.ensures
    (subst (λ os. Some (reported os c.in-Some.event) ≡ due) (sym c.octets.ensures.value)
    (subst (λ o. option_map (reported d.octets) o ≡ due) c.in-Some.is decided.due))

pub returns-in-Some : goal.returns-in-Some
returns-in-Some g c = λ old bits advances.
    let view = g.C.Check.check in
    let d = c.args.decoder.now in
    let line = c.args.line in
    let event = c.in-Some.event in
    let before = c.args.conversation.now in
    let after = c.add_report.new.self in
    let enters = subst
    (λ (os : List ℕ). AdvancesConversation before (line_report line (reported os event))
    (found_on line os after.last) after)
    c.octets.ensures.value c.add_report.ensures.enters in
    let decides = subst (λ o. Advances view old bits (option_map (reported d.octets) o) d) c.in-Some.is advances in
    rw (c.in-Some.is)
    (decodes-some view line old d before after bits (reported d.octets event) (told_on line d.octets true after.last)
    decides enters.keeps (λ hs kept. ap Some (enters.says hs kept)) enters.dictionary enters.depth)
