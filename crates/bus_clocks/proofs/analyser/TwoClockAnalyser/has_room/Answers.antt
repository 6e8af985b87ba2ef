use Rattle.std.proofs.Common.{arith}
use Rattle.bus_clocks.proofs.FeedLemmas.{room-is}
use Rattle.bus_clocks.proofs.RoomLemmas.{own-count}
use Rattle.bus_clocks.proofs.analyser.TwoClockAnalyser.has_room.Goals as goal

pub overflow_sub-second : goal.overflow_sub-second
overflow_sub-second g c = omega (arith, c.count_first-first.ensures, own-count c.args.arrivals.now)

pub returns-then-first-place_on : goal.returns-then-first-place_on
returns-then-first-place_on g c =
    let second = c.place_on-then-first-place_on in
    room-is c.args.self.now c.args.arrivals.now c.count_first-first.result c.place_on.result second.result
    c.count_first-first.ensures c.place_on.ensures.value second.ensures.value c.place_on.ensures.fits
    second.ensures.fits c.if-first-place_on.true
