use Rattle.std.proofs.Common.{[], arith}
use Rattle.bus_watch.proofs.FailLemmas.{made, for-sink}
use Rattle.bus_clocks.proofs.RunLemmas.{fed-clock-headline, stopped-at-arrival, clock-fails}
use Rattle.bus_clocks.proofs.run.run_clocks.Goals as goal

pub returns-in-Ok-feed-clause-headline : goal.returns-in-Ok-feed-clause-headline
returns-in-Ok-feed-clause-headline g c =
    let given = c.in-Ok.ensures.given in
    let fed = c.in-Ok-feed.ensures.fed in
    let headline = fed-clock-headline g.C.Check.check g.S.PairSink.sink c.in-Ok.analyser c.feed.new.self
    _ _ _ c.usage-usage.result c.in-Ok.ensures.is_after fed c.usage-usage.ensures.headline in
    (fed.seen, fed.took, rw (← given.0, ← given.1, ← given.2) headline)

pub returns-in-Ok-feed-clause-is_after : goal.returns-in-Ok-feed-clause-is_after
returns-in-Ok-feed-clause-is_after g c = c.in-Ok-feed.ensures.fed.sees.is_after [] c.in-Ok.ensures.is_after

pub returns-in-Err-feed-clause-fails : goal.returns-in-Err-feed-clause-fails
returns-in-Err-feed-clause-fails g c =
    let given = c.in-Ok.ensures.given in
    let new = c.in-Ok.ensures.is_after in
    let can = made c.new.result c.in-Ok.analyser c.args.depth c.args.origin c.in-Ok.is c.new.ensures.depth
    c.new.ensures.origin in
    clock-fails c.feed.result c.in-Err-feed.fault c.args.depth c.args.origin c.in-Ok.analyser c.args.arrivals.now _
    c.in-Err-feed.is can c.feed.ensures.limit (omega (arith, new.first.has_taken.place, given.2))
    (omega (arith, new.second.has_taken.place, new.origin))
    (for-sink c.in-Err-feed.fault
    (λ consumed refused _. (
      refused.0,
      rw (← given.0, ← given.2)
          (stopped-at-arrival g.C.Check.check g.S.PairSink.sink c.in-Ok.analyser c.feed.new.self _ _ _ consumed
          c.seen_grows.ensures.reports c.arrivals_are.ensures.grow c.in-Ok.ensures.is_after refused.1),
    ))
    c.in-Err-feed.ensures.refused c.in-Err-feed.ensures.refused)
