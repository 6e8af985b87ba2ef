use Rattle.std.proofs.Common.{false, arith}
use Rattle.std.proofs.lemmas.List.{take_more}
use Rattle.bus_pairing.proofs.SinkLemmas.{took-none, took-after}
use Rattle.bus_watch.proofs.FedLemmas.{fed-nil, fed-more, refused-after, at-ok, at-err}
use Rattle.bus_watch.proofs.analyser.Analyser.feed.Goals as goal

pub loop-consumed-init : goal.loop-consumed-init
loop-consumed-init g c = record { within = omega arith; fed = fed-nil; sink = took-none }

pub returns-then-is_err-clause-refused : goal.returns-then-is_err-clause-refused
returns-then-is_err-clause-refused g c =
    let told = c.feed_bit-told in
    record {
      some = omega arith;
      within = omega (arith, c.loop-consumed-test.true);
      refused = rw (take_more c.args.bits.now c.loop-consumed.consumed false c.loop-consumed-test.true)
          (refused-after c.loop-consumed.invariant.fed
          (at-err told.result c.if-is_err.ensures.value told.ensures.refused));
    }

pub returns-then-is_err-clause-one_refused : goal.returns-then-is_err-clause-one_refused
returns-then-is_err-clause-one_refused g c =
    took-after c.loop-consumed.invariant.sink
    (at-err c.feed_bit-told.result c.if-is_err.ensures.value c.feed_bit-told.ensures.one_refused)

pub loop-consumed-preserved : goal.loop-consumed-preserved
loop-consumed-preserved g c =
    let told = c.feed_bit-told in
    let before = c.loop-consumed.invariant in
    record {
      within = omega (arith, c.loop-consumed-test.true);
      fed = rw (take_more c.args.bits.now c.loop-consumed.consumed false c.loop-consumed-test.true)
          (fed-more before.fed (at-ok told.result c.if-is_err.ensures.value told.ensures.fed));
      sink = took-after before.sink (at-ok told.result c.if-is_err.ensures.value told.ensures.none_refused);
    }
