use Rattle.std.proofs.Common.{ℕ, ◌+◌, ◌*◌, ◌≤◌, List, ◌++◌, take, Option}
use Rattle.arrayvec.specs.ArrayVec.{array_vec_len}
use Rattle.bus_calls.proofs.ReportLemmas.{kept}
use Rattle.bus_text.specs.CheckText.{history_text}
use Rattle.bus_text.specs.Pages.{Pages}
use Rattle.bus_calls.proofs.report.put_history.Given as goal

-- the first frames were put
abbrev pub invariant-loop-i : goal.invariant-loop-i
invariant-loop-i g l = record {
  few : l.page.written + array_vec_len l.page.text ≤ l.fn.page.written + array_vec_len l.fn.page.text + 572 * l.i;
  within : l.i ≤ l.i-end;
  put : (start : Option (List ℕ)) (text : List ℕ) (b : List g.row.T-Received.Denot) →
      g.T.CaptureKind.kind.watch.is_after l.analyser b →
      Pages start (g.W.Write.contents l.fn.w) l.fn.page.text l.fn.page.written text
      → Pages start (g.W.Write.contents l.w) l.page.text l.page.written
      (text ++ history_text g.T.CaptureKind.kind.form.is_two (take l.i (kept g.T.CaptureKind.kind l.analyser b)));
}
