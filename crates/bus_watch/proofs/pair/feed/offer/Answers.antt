use Rattle.bus_pairing.specs.Shown.{shown_on}
use Rattle.std.proofs.Common.{Some}
use Rattle.bus_pairing.proofs.SinkLemmas.{took-one, refused-one}
use Rattle.bus_watch.proofs.PairFedLemmas.{offered-none, offered-one, offered-not}
use Rattle.bus_watch.proofs.pair.feed.offer.Goals as goal

pub returns-in-None-clause-ok : goal.returns-in-None-clause-ok
returns-in-None-clause-ok g c = rw (c.in-None.is) offered-none

pub returns-in-Some-clause-ok : goal.returns-in-Some-clause-ok
returns-in-Some-clause-ok g c = rw (c.in-Some.is)
    (offered-one g.S.PairSink.sink c.take.result
    (shown_on (Some c.args.line) c.in-Some.seen) c.args.sink.now c.take.new.self c.take.ensures.taken
    (took-one g.S.PairSink.sink c.take.result c.args.sink.now c.take.new.self
    c.take.ensures.counted c.take.ensures.same_room c.take.ensures.within))

pub returns-in-Some-clause-err : goal.returns-in-Some-clause-err
returns-in-Some-clause-err g c = rw (c.in-Some.is)
    (offered-not g.S.PairSink.sink c.take.result
    (shown_on (Some c.args.line) c.in-Some.seen) c.args.sink.now c.take.new.self c.take.ensures.not_taken
    (refused-one g.S.PairSink.sink c.take.result c.args.sink.now
    c.take.new.self c.take.ensures.not_taken c.take.ensures.refused c.take.ensures.same_room c.take.ensures.full))
