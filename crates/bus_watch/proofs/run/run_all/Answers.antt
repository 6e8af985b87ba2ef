use Rattle.std.proofs.Common.{◌≡◌, ◌<◌, ◌^◌, ◌+◌, ◌↔◌, [], length, Err}
use Rattle.bus_watch.specs.declared.fault.FeedFault.TheVariants.{PlaceLimit}
use Rattle.bus_watch.specs.Headline.{bits_in}
use Rattle.bus_watch.proofs.HeadlineLemmas.{fed-headline, stopped}
use Rattle.bus_watch.proofs.FailLemmas.{made, feed-fails, for-sink}
use Rattle.bus_watch.proofs.run.run_all.Goals as goal

pub returns-in-Ok-feed_all-clause-headline : goal.returns-in-Ok-feed_all-clause-headline
returns-in-Ok-feed_all-clause-headline g c =
    let given = c.in-Ok.ensures.given in
    let fed = c.in-Ok-feed_all.ensures.fed in
    let headline = fed-headline g.C.Check.check g.S.ReportSink.sink c.in-Ok.analyser
    c.feed_all.new.self _ _ _ c.usage-usage.result c.in-Ok.ensures.is_after fed c.usage-usage.ensures.headline in
    (fed.seen, fed.took, rw (← given.0, ← given.1, ← given.2) headline)

pub returns-in-Ok-feed_all-clause-is_after : goal.returns-in-Ok-feed_all-clause-is_after
returns-in-Ok-feed_all-clause-is_after g c = c.in-Ok-feed_all.ensures.fed.sees.is_after [] c.in-Ok.ensures.is_after

pub returns-in-Err-feed_all-clause-fails : goal.returns-in-Err-feed_all-clause-fails
returns-in-Err-feed_all-clause-fails g c =
    let given = c.in-Ok.ensures.given in
    let can = made c.new.result c.in-Ok.analyser c.args.depth c.args.origin c.in-Ok.is c.new.ensures.depth
    c.new.ensures.origin in
    let limit : (c.feed_all.result ≡ Err PlaceLimit) ↔ (2 ^ 60 < c.args.origin + length (bits_in c.args.pieces.now)) =
    rw (← given.3) c.feed_all.ensures.limit in
    feed-fails c.feed_all.result c.in-Err-feed_all.fault c.args.depth c.args.origin (length (bits_in c.args.pieces.now))
    _ c.in-Err-feed_all.is can limit
    (for-sink c.in-Err-feed_all.fault
    (λ consumed one at. (
      one,
      rw (← given.0, ← given.2)
          (stopped g.C.Check.check g.S.ReportSink.sink c.in-Ok.analyser c.feed_all.new.self _ _ _
          consumed
          c.in-Ok.ensures.is_after at),
    ))
    c.in-Err-feed_all.ensures.one_refused c.in-Err-feed_all.ensures.refused)
