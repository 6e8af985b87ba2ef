use Rattle.std.proofs.Common.{◌≡◌, ◌<◌, ◌^◌, ◌+◌, ◌↔◌, [], length, Err}
use Rattle.bus_watch.specs.declared.fault.FeedFault.TheVariants.{PlaceLimit}
use Rattle.bus_watch.proofs.PairHeadlineLemmas.{fed-pair-headline, stopped-at-pair}
use Rattle.bus_watch.proofs.FailLemmas.{made, feed-fails, for-sink}
use Rattle.bus_watch.proofs.pair.run.run_pairs.Goals as goal

pub returns-in-Ok-feed-clause-headline : goal.returns-in-Ok-feed-clause-headline
returns-in-Ok-feed-clause-headline g c =
    let given = c.in-Ok.ensures.given in
    let fed = c.in-Ok-feed.ensures.fed in
    let headline = fed-pair-headline g.C.Check.check g.S.PairSink.sink c.in-Ok.analyser c.feed.new.self
    _ _ _ c.usage-usage.result c.in-Ok.ensures.is_after fed c.usage-usage.ensures.headline in
    (fed.seen, fed.took, rw (← given.0, ← given.1, ← given.2) headline)

pub returns-in-Ok-feed-clause-is_after : goal.returns-in-Ok-feed-clause-is_after
returns-in-Ok-feed-clause-is_after g c = c.in-Ok-feed.ensures.fed.sees.is_after [] c.in-Ok.ensures.is_after

pub returns-in-Err-feed-clause-fails : goal.returns-in-Err-feed-clause-fails
returns-in-Err-feed-clause-fails g c =
    let given = c.in-Ok.ensures.given in
    let can = made c.new.result c.in-Ok.analyser c.args.depth c.args.origin c.in-Ok.is c.new.ensures.depth
    c.new.ensures.origin in
    let limit : (c.feed.result ≡ Err PlaceLimit) ↔ (2 ^ 60 < c.args.origin + length c.args.pairs.now) =
    rw (← given.3) c.feed.ensures.limit in
    feed-fails c.feed.result c.in-Err-feed.fault c.args.depth c.args.origin (length c.args.pairs.now) _ c.in-Err-feed.is
    can limit
    (for-sink c.in-Err-feed.fault
    (λ consumed refused _. (
      refused.0,
      refused.1,
      refused.2,
      rw (← given.0, ← given.2)
          (stopped-at-pair g.C.Check.check g.S.PairSink.sink c.in-Ok.analyser c.feed.new.self _ _ _
          refused.0 consumed c.in-Ok.ensures.is_after refused.3),
    ))
    c.in-Err-feed.ensures.refused c.in-Err-feed.ensures.refused)
