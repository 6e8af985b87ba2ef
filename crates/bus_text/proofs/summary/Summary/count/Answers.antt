use Rattle.std.proofs.Common.{◌≡◌, true, false, Bool, sym, ap, ◌∙◌}
use Rattle.bus_pairing.specs.Shown.{found}
use Rattle.bus_text.specs.Counting.{with_kind, with_verdict, with_stray, with_seen}
use Rattle.bus_text.proofs.SummaryLemmas.{summary-more, kind-alone}
use Rattle.bus_text.proofs.summary.Summary.count.Goals as goal

pub returns-then-seen_event-clause-adds : goal.returns-then-seen_event-clause-adds
returns-then-seen_event-clause-adds c = λ octets.
    let s = found octets c.args.seen_event.now in
    let counted : c.count_verdict.new.self ≡ with_verdict s.verdict (with_kind s.report.kind c.args.self.now) =
    c.count_verdict.ensures ∙ ap (with_verdict s.verdict)
    (c.count_kind.ensures ∙ kind-alone octets c.args.seen_event.now.event.kind c.args.self.now) in
    ap (with_stray true) counted
    ∙ ap (λ (b : Bool). with_stray b (with_verdict s.verdict (with_kind s.report.kind c.args.self.now)))
    (sym c.if-seen_event.true)

pub returns-else-seen_event-clause-adds : goal.returns-else-seen_event-clause-adds
returns-else-seen_event-clause-adds c = λ octets.
    let s = found octets c.args.seen_event.now in
    let counted : c.count_verdict.new.self ≡ with_verdict s.verdict (with_kind s.report.kind c.args.self.now) =
    c.count_verdict.ensures ∙ ap (with_verdict s.verdict)
    (c.count_kind.ensures ∙ kind-alone octets c.args.seen_event.now.event.kind c.args.self.now) in
    ap (with_stray false) counted
    ∙ ap (λ (b : Bool). with_stray b (with_verdict s.verdict (with_kind s.report.kind c.args.self.now)))
    (sym c.if-seen_event.false)

pub returns-then-seen_event-clause-counted : goal.returns-then-seen_event-clause-counted
returns-then-seen_event-clause-counted c = λ before octets counted.
    let s = found octets c.args.seen_event.now in
    returns-then-seen_event-clause-adds c octets ∙ ap (with_seen s) counted ∙ sym (summary-more before s)

pub returns-else-seen_event-clause-counted : goal.returns-else-seen_event-clause-counted
returns-else-seen_event-clause-counted c = λ before octets counted.
    let s = found octets c.args.seen_event.now in
    returns-else-seen_event-clause-adds c octets ∙ ap (with_seen s) counted ∙ sym (summary-more before s)
