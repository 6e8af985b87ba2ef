use Rattle.bus_sample.proofs.MarksLemmas.{put-all, put-first, put-most, put-next, put-room}
use Rattle.bus_sample.proofs.marks.Marks.put_edges.Goals as goal

pub loop-left-init : goal.loop-left-init
loop-left-init c = put-first c.args.from c.args.edges.now c.args.self.now

pub put_sample-requires : goal.put_sample-requires
put_sample-requires c =
    let one = c.lowest_one-one in
    put-room c.args.from c.args.edges.now c.args.self.now c.loop-left.self c.loop-left.left one.result.rest
    one.result.place c.loop-left.invariant one.ensures.ones c.requires.few

pub loop-left-preserved : goal.loop-left-preserved
loop-left-preserved c =
    let one = c.lowest_one-one in
    let more = c.put_sample.ensures in
    put-next c.args.from c.args.edges.now c.args.self.now c.loop-left.self c.loop-left.left one.result.rest
    one.result.place c.loop-left.invariant one.ensures.ones c.put_sample.new.self
    (λ start now most ts marked. rw (c.at.ensures, c.from.ensures) at (more.put start now most ts marked))
    more.few more.written

pub returns-clause-put : goal.returns-clause-put
returns-clause-put c =
    put-all c.args.from c.args.edges.now c.args.self.now c.loop-left.self c.loop-left.left c.loop-left.invariant
    c.loop-left-test.false

pub returns-clause-few : goal.returns-clause-few
returns-clause-few c =
    put-most c.args.from c.args.edges.now c.args.self.now c.loop-left.self c.loop-left.left c.loop-left.invariant
    c.loop-left-test.false

pub returns-clause-written : goal.returns-clause-written
returns-clause-written c = c.loop-left.invariant.written
