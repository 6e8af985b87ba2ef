use Rattle.std.proofs.Common.{ℕ, List, ◌++◌, MatchResult, subst}
use Rattle.std.proofs.lemmas.Result.{err_from_is_err_and}
use Rattle.bus_text.specs.CheckText.{summary_text, tallies_text, history_text}
use Rattle.bus_text.specs.Put.{TextStopsAt}
use Rattle.bus_text.specs.Pages.{Pages}
use Rattle.bus_text.proofs.PagesLemmas.{cuts-more}
use Rattle.bus_calls.proofs.ReportLemmas.{kept, report-parts, tallied}
use Rattle.bus_calls.proofs.report.put_report.Goals as goal

pub returns-in_err-put_summary-clause-put : goal.returns-in_err-put_summary-clause-put
returns-in_err-put_summary-clause-put g c =
    let failed = err_from_is_err_and c.from_residual.result c.from_residual.ensures.1 in
    rw (failed.1, failed.2) (λ start text b is_after p.
    let a = c.args.analyser.now in
    let s = summary_text c.args.summary.now in
    let t = tallies_text (tallied g.T.CaptureKind.kind a b) 256 in
    let h = history_text g.T.CaptureKind.kind.form.is_two (kept g.T.CaptureKind.kind a b) in
    let cut = c.in_err-put_summary.ensures.put start text p in
    let sent = c.in_err-put_summary.field-0.0.sent in
    let now = g.W.Write.contents c.put_summary.new.w in
    subst (λ (l : List ℕ). TextStopsAt start now l sent) (report-parts text s t h)
    (cuts-more start now ((text ++ s) ++ t) h sent (cuts-more start now (text ++ s) t sent cut)))

pub returns-in_err-put_tallies-clause-put : goal.returns-in_err-put_tallies-clause-put
returns-in_err-put_tallies-clause-put g c =
    let failed = err_from_is_err_and c.from_residual-in_err-put_tallies.result
    c.from_residual-in_err-put_tallies.ensures.1 in
    rw (failed.1, failed.2) (λ start text b is_after p.
    let a = c.args.analyser.now in
    let s = summary_text c.args.summary.now in
    let t = tallies_text (tallied g.T.CaptureKind.kind a b) 256 in
    let h = history_text g.T.CaptureKind.kind.form.is_two (kept g.T.CaptureKind.kind a b) in
    let first = c.in_ok-put_summary.ensures.put start text p in
    let sent = c.in_err-put_tallies.field-0.0.sent in
    let now = g.W.Write.contents c.put_tallies.new.w in
    subst (λ (l : List ℕ). TextStopsAt start now l sent) (report-parts text s t h)
    (cuts-more start now ((text ++ s) ++ t) h sent
    (c.in_err-put_tallies.ensures.put start (text ++ s) b is_after first)))

pub returns-clause-put : goal.returns-clause-put
returns-clause-put g c = λ start text b is_after p.
    let a = c.args.analyser.now in
    let s = summary_text c.args.summary.now in
    let t = tallies_text (tallied g.T.CaptureKind.kind a b) 256 in
    let h = history_text g.T.CaptureKind.kind.form.is_two (kept g.T.CaptureKind.kind a b) in
    let now = g.W.Write.contents c.put_history.new.w in
    let first = c.in_ok-put_summary.ensures.put start text p in
    let second = c.in_ok-put_tallies.ensures.put start (text ++ s) b is_after first in
    subst (λ (l : List ℕ). MatchResult c.put_history.result
    (λ _. Pages start now c.put_history.new.page.text c.put_history.new.page.written l)
    (λ cut. TextStopsAt start now l cut.sent)) (report-parts text s t h)
    (c.put_history.ensures.put start ((text ++ s) ++ t) b is_after second)
