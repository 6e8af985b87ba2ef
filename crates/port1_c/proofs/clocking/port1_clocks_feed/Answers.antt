use Rattle.std.proofs.Common.{◌++◌, List, refl, ap, ◌∙◌, arith, append-nil}
use Rattle.bus_tap.specs.Arrival.{Arrival}
use Rattle.port1_c.specs.Clocks.{ClocksAfter, arrived_told, decided_told}
use Rattle.port1_c.specs.Rest.{arrival_told}
use Rattle.port1_c.proofs.ClocksLemmas.{arrival_at, decide-none, decides-more, last-taken, nothing-decided}
use Rattle.port1_c.proofs.ClocksLemmas.{takes-more, takes-none}
use Rattle.port1_c.proofs.clocking.port1_clocks_feed.Goals as goal

pub loop-at-init : goal.loop-at-init
loop-at-init c = record {
  order = omega arith;
  within = λ inside. inside;
  kind = c.none.ensures.kind;
  cause = c.none.ensures.coded.others (λ two. omega (arith, two, c.none.ensures.kind));
  sound = c.is_sound.ensures.0 c.if-not-is_sound.false;
  longest = refl;
  origin = refl;
  after = takes-none c.args.clocks.now c.args.arrivals.now c.args.at.now;
  none = decide-none c.args.clocks.now c.args.arrivals.now c.args.at.now;
}

pub returns-then-not-is_sound-clause-after : goal.returns-then-not-is_sound-clause-after
returns-then-not-is_sound-clause-after c = takes-none c.args.clocks.now c.args.arrivals.now c.args.at.now

pub returns-then-report-ne-NONE-clause-after : goal.returns-then-report-ne-NONE-clause-after
returns-then-report-ne-NONE-clause-after c =
    let before = c.loop-at.invariant in
    let push = c.take-status in
    takes-more c.args.clocks.now c.loop-at.clocks push.new.clocks c.args.arrivals.now c.args.at.now c.loop-at.at
    before.order c.loop-at-test.true before.after (push.ensures.after c.if-status-ne-OK.false)

pub returns-then-report-ne-NONE-clause-decides : goal.returns-then-report-ne-NONE-clause-decides
returns-then-report-ne-NONE-clause-decides c = λ some.
    let before = c.loop-at.invariant in
    let push = c.take-status in
    let x = arrival_at c.args.arrivals.now c.loop-at.at in (
      x,
      last-taken c.args.arrivals.now c.loop-at.at c.loop-at-test.true,
      decides-more c.args.clocks.now c.loop-at.clocks c.args.arrivals.now c.args.at.now c.loop-at.at
          (decided_told push.new.clocks (arrival_told x).0 push.new.report) before.order
          c.loop-at-test.true before.longest
          before.origin before.after before.none (push.ensures.adds c.if-status-ne-OK.false),
    )

pub loop-at-preserved : goal.loop-at-preserved
loop-at-preserved c =
    let before = c.loop-at.invariant in
    let push = c.take-status in
    let ok = c.if-status-ne-OK.false in
    let kind = c.if-report-ne-NONE.false in
    let x = arrival_at c.args.arrivals.now c.loop-at.at in
    let hs = decided_told push.new.clocks (arrival_told x).0 push.new.report in
    let none : (xs : List Arrival) → ClocksAfter c.args.clocks.now xs → _ = decides-more c.args.clocks.now
    c.loop-at.clocks
    c.args.arrivals.now c.args.at.now c.loop-at.at hs before.order c.loop-at-test.true before.longest before.origin
    before.after before.none (push.ensures.adds ok) in record {
      order = omega (arith, before.order);
      within = λ inside. omega (arith, c.loop-at-test.true);
      kind = kind;
      cause = (push.ensures.coded ok).others (λ two. omega (arith, two, kind));
      sound = push.ensures.sound;
      longest = push.ensures.given.0 ∙ before.longest;
      origin = push.ensures.given.1 ∙ before.origin;
      after = takes-more c.args.clocks.now c.loop-at.clocks push.new.clocks c.args.arrivals.now c.args.at.now
          c.loop-at.at
          before.order c.loop-at-test.true before.after (push.ensures.after ok);
      none = λ xs after. none xs after
          ∙ ap (λ l. arrived_told c.args.clocks.now xs ++ l)
          (nothing-decided push.new.clocks (arrival_told x).0 push.new.report
          kind)
          ∙ append-nil (arrived_told c.args.clocks.now xs);
    }
