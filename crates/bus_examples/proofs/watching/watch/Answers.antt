use Rattle.std.proofs.Common.{◌≡◌, ◌<◌, ◌≤◌, ◌^◌, ◌+◌, ◌↔◌, length, Err, Some, [], refl, ap, ◌∙◌, inl, inr, arith}
use Rattle.std.proofs.lemmas.Bool.{cases_lt}
use Rattle.bus_pairing.specs.LogState.{LogState, log_sink}
use Rattle.bus_watch.specs.Headline.{all_seen}
use Rattle.bus_watch.specs.declared.fault.FeedFault.TheVariants.{PlaceLimit}
use Rattle.bus_watch.proofs.HeadlineLemmas.{fed-seen, stopped}
use Rattle.bus_watch.proofs.FailLemmas.{made, feed-fails, for-sink, log-lacks}
use Rattle.bus_examples.specs.declared.watching.WatchFault.TheVariants.{Feed}
use Rattle.bus_examples.proofs.WatchingLemmas.{same, if_err}
use Rattle.bus_examples.proofs.watching.watch.Goals as goal

seen_all : (c : goal.After-drop-analyser-inside-3) → c.feed.new.sink.reports
    ≡ all_seen c.args.dictionary 0 c.args.bits.now
seen_all c =
    let given = c.in_ok-analyser.ensures.given in
    let fed = c.in_ok-feed.ensures.fed in
    let start : c.in-Ok.log.reports ≡ [] = ap (λ (log : LogState). log.reports) c.in-Ok.ensures in
    let all : fed.seen ≡ all_seen c.args.dictionary 0 c.args.bits.now =
    rw (← given.0, ← given.2)
    (fed-seen _ log_sink c.in_ok-analyser.analyser c.feed.new.self c.args.bits.now c.in-Ok.log
    c.feed.new.sink c.in_ok-analyser.ensures.is_after fed) in
    same fed.took ∙ rw start all

pub returns-in_err-feed-clause-fails : goal.returns-in_err-feed-clause-fails
returns-in_err-feed-clause-fails c =
    let given = c.in_ok-analyser.ensures.given in
    let fault = c.in_err-feed.field-0.0 in
    let can = made c.new.result c.in_ok-analyser.analyser 16 0 c.in_ok-analyser.was c.new.ensures.depth
    c.new.ensures.origin in
    let limit : (c.feed.result ≡ Err PlaceLimit) ↔ (2 ^ 60 < 0 + length c.args.bits.now) =
    rw (← given.3) c.feed.ensures.limit in
    let start : Some c.in-Ok.log.reports ≡ Some [] = ap (λ (log : LogState). Some log.reports) c.in-Ok.ensures in
    let room : c.in-Ok.log.room ≡ c.args.room = ap (λ (log : LogState). log.room) c.in-Ok.ensures in
    let fails = feed-fails c.feed.result fault 16 0 (length c.args.bits.now) _ c.in_err-feed.was can limit
    (for-sink fault
    (λ consumed at counts. rw (← given.0, ← given.2)
    (log-lacks log_sink c.seen_grows.ensures.reports c.reports_grow.ensures.grow _ _ c.args.room
    c.args.bits.now c.in-Ok.log c.feed.new.sink consumed c.feed.new.sink.reports start refl
    (counts.full (omega arith) ∙ (same counts.same_room ∙ room))
    (stopped _ log_sink c.in_ok-analyser.analyser c.feed.new.self c.args.bits.now c.in-Ok.log
    c.feed.new.sink consumed c.in_ok-analyser.ensures.is_after at)))
    c.in_err-feed.ensures.refused c.in_err-feed.ensures.one_refused) in
    if_err c.from_residual-in_err-feed.result (Feed fault) _ fails c.from_residual-in_err-feed.ensures.1

pub returns-clause-seen : goal.returns-clause-seen
returns-clause-seen c = seen_all c

pub returns-clause-within_limits : goal.returns-clause-within_limits
returns-clause-within_limits c =
    let given = c.in_ok-analyser.ensures.given in
    let is = c.in_ok-feed.was in
    let limit : (c.feed.result ≡ Err PlaceLimit) ↔ (2 ^ 60 < 0 + length c.args.bits.now) =
    rw (← given.3) c.feed.ensures.limit in
    let sink = c.in_ok-feed.ensures.none_refused in
    let room : c.feed.new.sink.room ≡ c.args.room =
    same sink.same_room ∙ ap (λ (log : LogState). log.room) c.in-Ok.ensures in
    let none : length c.in-Ok.log.reports ≡ 0 = ap (λ (log : LogState). length log.reports) c.in-Ok.ensures in
    let within : length c.feed.new.sink.reports ≤ c.feed.new.sink.room =
    sink.within (omega (arith, none)) in (
      elim (cases_lt (2 ^ 60) (0 + length c.args.bits.now)) [
        | inl far ↦ absurd (let e = limit.1 far in cc)
        | inr near ↦ omega (arith, near)
      ],
      omega (arith, within, room, ap length (seen_all c)),
    )
