use Rattle.std.proofs.Common.{◌∷◌, [], Some, append-nil, ap, arith}
use Rattle.std.proofs.lemmas.Result.{on_err_weaker}
use Rattle.bus_pairing.proofs.SinkLemmas.{refused-one}
use Rattle.bus_pairing.specs.Shown.{shown_on}
use Rattle.bus_watch.specs.Watch.{seen_by}
use Rattle.bus_watch.proofs.PairFedLemmas.{offered-not, refused-offered}
use Rattle.bus_clocks.specs.Clocks.{AdvancesArrivals, two_clocks}
use Rattle.bus_clocks.proofs.analyser.TwoClockAnalyser.feed_one.Goals as goal

pub returns-in-Some-clause-refused : goal.returns-in-Some-clause-refused
returns-in-Some-clause-refused g c =
    let view = g.C.Check.check in
    let sink = g.S.PairSink.sink in
    let shown = shown_on (Some c.args.line) c.in-Some.seen in
    let sees : AdvancesArrivals view c.args.self.now ((c.args.line, c.args.bit) ∷ []) (shown ∷ []) c.step.new.self =
    rw (← c.lent.ensures.shown, c.in-Some.is) at c.in-Ok.ensures.sees in
    on_err_weaker c.take.result
    (λ offered. (
      offered.counts,
      refused-offered {w = two_clocks view} (omega arith) (omega arith) sees
          (λ b reached. ap (seen_by (two_clocks view) c.args.self.now) (append-nil b)) offered,
    ))
    (offered-not sink c.take.result shown c.args.sink.now c.take.new.self c.take.ensures.not_taken
    (refused-one sink c.take.result c.args.sink.now c.take.new.self c.take.ensures.not_taken c.take.ensures.refused
    c.take.ensures.same_room c.take.ensures.full))
