use Rattle.std.proofs.Common.{◌≡◌, List, ◌++◌, take, subst, arith}
use Rattle.std.proofs.lemmas.List.{take_all}
use Rattle.std.proofs.lemmas.Result.{err_from_is_err_and}
use Rattle.bus_pairing.specs.History.{KeptFrame}
use Rattle.bus_text.specs.CheckText.{history_text}
use Rattle.bus_text.specs.Pages.{Pages}
use Rattle.bus_calls.proofs.ReportLemmas.{frame-at, kept, pages-kept, cuts-kept}
use Rattle.bus_calls.proofs.report.put_history.Goals as goal

pub returns-in_err-put_last-clause-put : goal.returns-in_err-put_last-clause-put
returns-in_err-put_last-clause-put g c =
    let failed = err_from_is_err_and c.from_residual.result c.from_residual.ensures.1 in
    rw (failed.1, failed.2) (λ start text b is_after p.
    let h = kept g.T.CaptureKind.kind c.args.analyser.now b in
    let two = g.T.CaptureKind.kind.form.is_two in
    let i = c.loop-i.i in
    let here = frame-at h i (omega (arith, c.loop-i-test.true, c.history_len-i-end.ensures.value b is_after)) in
    cuts-kept two text h i here.1
    (c.in_err-put_last.ensures.put start (text ++ history_text two (take i h)) b here.0 is_after here.1
    (c.loop-i.invariant.put start text b is_after p)))

pub loop-i-preserved : goal.loop-i-preserved
loop-i-preserved g c = record {
  few = omega (arith, c.loop-i.invariant.few, c.in_ok-put_last.ensures.few);
  within = omega (arith, c.loop-i-test.true);
  put = λ start text b is_after p.
      let h = kept g.T.CaptureKind.kind c.args.analyser.now b in
      let two = g.T.CaptureKind.kind.form.is_two in
      let i = c.loop-i.i in
      let here = frame-at h i (omega (arith, c.loop-i-test.true, c.history_len-i-end.ensures.value b is_after)) in
      pages-kept two text h i here.1
      (c.in_ok-put_last.ensures.put start (text ++ history_text two (take i h)) b here.0 is_after here.1
      (c.loop-i.invariant.put start text b is_after p));
}

pub returns-clause-put : goal.returns-clause-put
returns-clause-put g c = λ start text b is_after p.
    let h = kept g.T.CaptureKind.kind c.args.analyser.now b in
    let whole : take c.loop-i.i h ≡ h =
    take_all c.loop-i.i h (omega (arith, c.loop-i-test.false, c.history_len-i-end.ensures.value b is_after)) in
    subst (λ (l : List KeptFrame). Pages start (g.W.Write.contents c.loop-i.w) c.loop-i.page.text c.loop-i.page.written
    (text ++ history_text g.T.CaptureKind.kind.form.is_two l)) whole (c.loop-i.invariant.put start text b is_after p)
