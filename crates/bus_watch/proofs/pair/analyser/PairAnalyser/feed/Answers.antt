use Rattle.std.proofs.Common.{false, arith}
use Rattle.std.proofs.lemmas.List.{take_more}
use Rattle.bus_pairing.proofs.SinkLemmas.{took-none, took-after}
use Rattle.bus_watch.proofs.FedLemmas.{fed-nil, fed-more, at-ok, at-err}
use Rattle.bus_watch.proofs.PairFedLemmas.{refused-behind}
use Rattle.bus_watch.proofs.pair.analyser.PairAnalyser.feed.Goals as goal

pub loop-consumed-init : goal.loop-consumed-init
loop-consumed-init g c = record { within = omega arith; fed = fed-nil; sink = took-none }

pub returns-then-is_err-clause-refused : goal.returns-then-is_err-clause-refused
returns-then-is_err-clause-refused g c =
    let told = c.feed_pair-told in
    let before = c.loop-consumed.invariant in
    let refused = at-err told.result c.if-is_err.ensures.value told.ensures.refused in (
      refused.0,
      refused.1,
      took-after before.sink refused.2,
      record {
        some = omega arith;
        within = omega (arith, c.loop-consumed-test.true);
        refused = rw (take_more c.args.pairs.now c.loop-consumed.consumed (false, false) c.loop-consumed-test.true)
            (refused-behind before.fed refused.3);
      },
    )

pub loop-consumed-preserved : goal.loop-consumed-preserved
loop-consumed-preserved g c =
    let told = c.feed_pair-told in
    let before = c.loop-consumed.invariant in
    record {
      within = omega (arith, c.loop-consumed-test.true);
      fed = rw (take_more c.args.pairs.now c.loop-consumed.consumed (false, false) c.loop-consumed-test.true)
          (fed-more before.fed (at-ok told.result c.if-is_err.ensures.value told.ensures.fed));
      sink = took-after before.sink (at-ok told.result c.if-is_err.ensures.value told.ensures.none_refused);
    }
