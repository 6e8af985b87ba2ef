use Rattle.std.proofs.Common.{◌≡◌, ◌<◌, ◌^◌, ◌+◌, ◌↔◌, ℕ, length, Err, Some, [], refl, ap, ◌∙◌, arith}
use Rattle.bus_pairing.specs.LogState.{LogState, log_sink}
use Rattle.bus_pairing.specs.Sink.{SinkTook}
use Rattle.bus_watch.specs.declared.fault.FeedFault.TheVariants.{PlaceLimit}
use Rattle.bus_watch.proofs.HeadlineLemmas.{stopped}
use Rattle.bus_watch.proofs.FailLemmas.{made, feed-fails, for-sink, log-lacks}
use Rattle.bus_watch.proofs.run.reports_of.Goals as goal

same-number : (m n : ℕ) → Some m ≡ Some n → m ≡ n
same-number m n e = cc

pub returns-clause-fails : goal.returns-clause-fails
returns-clause-fails c =
    let given = c.in-Ok.ensures.given in
    let can = made c.new.result c.in-Ok.analyser 1 c.args.origin c.in-Ok.is c.new.ensures.depth c.new.ensures.origin in
    let limit : (c.feed.result ≡ Err PlaceLimit) ↔ (2 ^ 60 < c.args.origin + length c.args.bits.now) =
    rw (← given.3) c.feed.ensures.limit in
    let start : Some c.in-Ok-new.log.reports ≡ Some [] =
    ap (λ (log : LogState). Some log.reports) c.in-Ok-new.ensures in
    let room : c.in-Ok-new.log.room ≡ c.args.room = ap (λ (log : LogState). log.room) c.in-Ok-new.ensures in
    feed-fails c.feed.result c.in-Err-feed.fault 1 c.args.origin (length c.args.bits.now) _ c.in-Err-feed.is can limit
    (for-sink c.in-Err-feed.fault
    (λ consumed at (counts : SinkTook log_sink 1 c.in-Ok-new.log c.feed.new.sink). rw (← given.0, ← given.2)
    (log-lacks log_sink c.seen_grows.ensures.reports c.reports_grow.ensures.grow _ _ c.args.room
    c.args.bits.now c.in-Ok-new.log c.feed.new.sink consumed c.feed.new.sink.reports start refl
    (counts.full (omega arith) ∙ (same-number _ _ counts.same_room ∙ room))
    (stopped _ log_sink c.in-Ok.analyser c.feed.new.self c.args.bits.now c.in-Ok-new.log
    c.feed.new.sink consumed c.in-Ok.ensures.is_after at)))
    c.in-Err-feed.ensures.refused c.in-Err-feed.ensures.one_refused)
