use Rattle.port1_c.proofs.TapLemmas.{front-all, front-next, front-none, front-room}
use Rattle.port1_c.proofs.arrival.put_edges.Goals as goal

pub loop-left-init : goal.loop-left-init
loop-left-init c =
    front-none c.args.from c.args.edges.now c.args.stops.now c.args.arrivals.now c.args.count.now

pub put_sample-requires : goal.put_sample-requires
put_sample-requires c =
    let one = c.lowest_one-one in record {
      room = front-room c.args.from c.args.edges.now c.args.stops.now c.args.arrivals.now c.args.count.now
          c.loop-left.left one.result.rest one.result.place c.loop-left.stops c.loop-left.arrivals c.loop-left.count
          c.loop-left.invariant one.ensures.ones c.requires.room;
    }

pub loop-left-preserved : goal.loop-left-preserved
loop-left-preserved c =
    let one = c.lowest_one-one in
    let new = c.put_sample.new in
    front-next c.args.from c.args.edges.now c.args.stops.now c.args.arrivals.now c.args.count.now c.loop-left.left
    one.result.rest one.result.place c.loop-left.stops c.loop-left.arrivals c.loop-left.count c.loop-left.invariant
    one.ensures.ones new.stops new.arrivals new.count
    (rw (c.at.ensures, c.from.ensures) at c.put_sample.ensures)

pub returns : goal.returns
returns c =
    front-all c.args.from c.args.edges.now c.args.stops.now c.args.arrivals.now c.args.count.now c.loop-left.left
    c.loop-left.left c.loop-left.left c.loop-left.stops c.loop-left.arrivals c.loop-left.count c.loop-left.invariant
    c.loop-left-test.false
