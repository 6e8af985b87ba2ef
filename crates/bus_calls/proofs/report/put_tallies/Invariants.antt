use Rattle.std.proofs.Common.{ℕ, ◌+◌, ◌*◌, ◌≤◌, List, ◌++◌, Option}
use Rattle.arrayvec.specs.ArrayVec.{array_vec_len}
use Rattle.bus_calls.proofs.ReportLemmas.{tallied}
use Rattle.bus_text.specs.CheckText.{tallies_text}
use Rattle.bus_text.specs.Pages.{Pages}
use Rattle.bus_calls.proofs.report.put_tallies.Given as goal

-- the lines of the first stations were put
abbrev pub invariant-loop-station : goal.invariant-loop-station
invariant-loop-station g l = record {
  few : l.page.written + array_vec_len l.page.text ≤ l.fn.page.written + array_vec_len l.fn.page.text + 140 * l.station;
  put : (start : Option (List ℕ)) (text : List ℕ) (b : List g.row.T-Received.Denot) →
      g.T.CaptureKind.kind.watch.is_after l.analyser b →
      Pages start (g.W.Write.contents l.fn.w) l.fn.page.text l.fn.page.written text
      → Pages start (g.W.Write.contents l.w) l.page.text l.page.written
      (text ++ tallies_text (tallied g.T.CaptureKind.kind l.analyser b) l.station);
}
