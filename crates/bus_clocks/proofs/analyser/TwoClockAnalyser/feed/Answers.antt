use Rattle.std.proofs.Common.{arith}
use Rattle.bus_pairing.proofs.SinkLemmas.{took-none, took-after}
use Rattle.bus_watch.proofs.FedLemmas.{fed-nil, fed-more, at-ok, at-err}
use Rattle.bus_watch.proofs.PairFedLemmas.{refused-behind}
use Rattle.bus_clocks.proofs.FeedLemmas.{front-more, rest-more, one-own, room-all, arrival_at}
use Rattle.bus_clocks.proofs.analyser.TwoClockAnalyser.feed.Goals as goal

pub loop-consumed-init : goal.loop-consumed-init
loop-consumed-init g c = record {
  within = omega arith;
  fed = fed-nil;
  sink = took-none;
  room = room-all c.args.self.now c.args.arrivals.now (c.has_room.ensures.0 c.if-not-has_room.false);
}

pub feed_one-requires-clause-place : goal.feed_one-requires-clause-place
feed_one-requires-clause-place g c =
    let xs = c.args.arrivals.now in
    let i = c.loop-consumed.consumed in
    let x = arrival_at xs i in
    omega (arith, c.loop-consumed.invariant.room x.0, rest-more x.0 xs i c.loop-consumed-test.true, one-own x)

pub returns-then-is_err-clause-refused : goal.returns-then-is_err-clause-refused
returns-then-is_err-clause-refused g c =
    let xs = c.args.arrivals.now in
    let i = c.loop-consumed.consumed in
    let before = c.loop-consumed.invariant in
    let refused = at-err c.feed_one.result c.if-is_err.ensures.value c.feed_one.ensures.refused in (
      took-after before.sink refused.0,
      record {
        some = omega arith;
        within = omega (arith, c.loop-consumed-test.true);
        refused = rw (front-more xs i c.loop-consumed-test.true) (refused-behind before.fed refused.1);
      },
    )

pub loop-consumed-preserved : goal.loop-consumed-preserved
loop-consumed-preserved g c =
    let xs = c.args.arrivals.now in
    let i = c.loop-consumed.consumed in
    let before = c.loop-consumed.invariant in
    let inside = c.loop-consumed-test.true in
    record {
      within = omega (arith, inside);
      fed = rw (front-more xs i inside)
          (fed-more before.fed (at-ok c.feed_one.result c.if-is_err.ensures.value c.feed_one.ensures.fed));
      sink = took-after before.sink (at-ok c.feed_one.result c.if-is_err.ensures.value c.feed_one.ensures.none_refused);
      room = λ line. omega (arith, before.room line, rest-more line xs i inside, c.feed_one.ensures.counts line);
    }
