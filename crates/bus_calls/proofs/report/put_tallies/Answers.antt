use Rattle.std.proofs.Common.{rules, ◌≡◌, ◌+◌, ◌++◌, sym, ap, ◌∙◌, subst, arith, append-nil}
use Rattle.std.proofs.lemmas.Result.{err_from_is_err_and}
use Rattle.bus_text.specs.CheckText.{tallies_text}
use Rattle.bus_text.specs.Pages.{Pages}
use Rattle.bus_calls.proofs.ReportLemmas.{tallied, tallies-none, pages-tally, cuts-tally}
use Rattle.bus_calls.proofs.report.put_tallies.Goals as goal

pub loop-station-init : goal.loop-station-init
loop-station-init g c = record {
  few = omega arith;
  put = λ start text b is_after p.
      let t = tallied g.T.CaptureKind.kind c.args.analyser.now b in
      subst (Pages start (g.W.Write.contents c.args.w.now) c.args.page.now.text c.args.page.now.written)
      (sym (ap (λ l. text ++ l) (tallies-none t) ∙ append-nil text)) p;
}

pub returns-in_err-put_tally-clause-put : goal.returns-in_err-put_tally-clause-put
returns-in_err-put_tally-clause-put g c =
    let failed = err_from_is_err_and c.from_residual.result c.from_residual.ensures.1 in
    rw (failed.1, failed.2) (λ start text b is_after p.
    let t = tallied g.T.CaptureKind.kind c.args.analyser.now b in
    let k = c.loop-station.station in
    cuts-tally text t k 256 (c.tally.ensures b is_after) (omega (arith, c.loop-station-test.true))
    (c.in_err-put_tally.ensures.put start (text ++ tallies_text t k)
    (c.loop-station.invariant.put start text b is_after p)))

pub loop-station-preserved : goal.loop-station-preserved
loop-station-preserved g c = record {
  few = omega (arith, c.loop-station.invariant.few, c.in_ok-put_tally.ensures.few);
  put = λ start text b is_after p.
      let t = tallied g.T.CaptureKind.kind c.args.analyser.now b in
      let k = c.loop-station.station in
      pages-tally text t k (c.tally.ensures b is_after)
      (c.in_ok-put_tally.ensures.put start (text ++ tallies_text t k)
      (c.loop-station.invariant.put start text b is_after p));
}

pub returns-clause-put : goal.returns-clause-put
returns-clause-put g c =
    absurd (let never : ⊥ = omega (arith, c.loop-station-test.false, c.loop-station.auto.station-end) in never)

pub returns-in_ok-put_tally-clause-put : goal.returns-in_ok-put_tally-clause-put
returns-in_ok-put_tally-clause-put g c = λ start text b is_after p.
    let t = tallied g.T.CaptureKind.kind c.args.analyser.now b in
    let k = c.loop-station.station in
    let last : k ≡ 255 = search rules in
    let all : k + 1 ≡ 256 = omega (arith, last) in
    subst (λ n. Pages start (g.W.Write.contents c.put_tally.new.w) c.put_tally.new.page.text
    c.put_tally.new.page.written (text ++ tallies_text t n)) all
    (pages-tally text t k (c.tally.ensures b is_after)
    (c.in_ok-put_tally.ensures.put start (text ++ tallies_text t k)
    (c.loop-station.invariant.put start text b is_after p)))
