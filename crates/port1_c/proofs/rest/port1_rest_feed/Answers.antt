use Rattle.std.proofs.Common.{◌≡◌, ◌≤◌, ◌==◌, ◌∷◌, not, length, refl, sym, ap, ◌∙◌, arith, subst}
use Rattle.bus_line.specs.declared.line.Line.{Line}
use Rattle.bus_tap.specs.Arrival.{Arrival}
use Rattle.bus_tap.specs.Rested.{fill}
use Rattle.port1_c.specs.Rest.{PutsRested, arrival_told}
use Rattle.port1_c.specs.Tap.{PutsArrivals}
use Rattle.port1_c.proofs.ClocksLemmas.{arrival_at}
use Rattle.port1_c.proofs.RestLemmas.{few, puts-more, puts-none}
use Rattle.port1_c.proofs.rest.port1_rest_feed.Goals as goal

pub loop-at-init : goal.loop-at-init
loop-at-init c = record {
  order = omega arith;
  within = λ inside. inside;
  long = refl;
  room = omega arith;
  sound = λ sound. sound;
  most = refl;
  puts = puts-none c.args.rest.now c.args.out.now c.args.arrivals.now c.args.at.now;
}

pub returns-then-status-ne-OK-clause-puts : goal.returns-then-status-ne-OK-clause-puts
returns-then-status-ne-OK-clause-puts c = λ _.
    let push = c.port1_rest_push-status in
    subst (λ r. PutsRested c.args.rest.now c.args.out.now c.args.arrivals.now c.args.at.now c.loop-at.at r c.loop-at.out
    c.loop-at.put) (sym (push.ensures.kept c.if-status-ne-OK.true).0) c.loop-at.invariant.puts

pub loop-at-preserved : goal.loop-at-preserved
loop-at-preserved c =
    let before = c.loop-at.invariant in
    let push = c.port1_rest_push-status in
    let put = c.put_rested in
    let ok = c.if-status-ne-OK.false in
    let x = arrival_at c.args.arrivals.now c.loop-at.at in
    let told : (c.in-Some.line, not (x.bit == 0)) ≡ arrival_told x =
    ap (λ (l : Line). (l, not (x.bit == 0))) c.in-Some.ensures.value in
    let room : put.new.count ≤ length put.new.arrivals = omega (
      arith,
      put.ensures.count,
      few (push.new.rests == 1),
      c.if-out-put-ge-MOST_PUT.true,
      put.ensures.put.long,
    ) in record {
      order = omega (arith, before.order);
      within = λ inside. omega (arith, c.loop-at-test.true);
      long = put.ensures.put.long ∙ before.long;
      room = room;
      sound = λ sound. push.ensures.sound ok;
      most = push.ensures.given ∙ before.most;
      puts = puts-more c.args.rest.now c.loop-at.rest push.new.rest c.args.out.now c.args.arrivals.now c.loop-at.out
          put.new.arrivals c.args.at.now c.loop-at.at c.loop-at.put put.new.count (fill (push.new.rests == 1))
          before.order c.loop-at-test.true before.most (sym before.long)
          (omega (arith, room, put.ensures.put.long, before.long))
          before.puts (push.ensures.rested ok)
          (push.ensures.after ok) put.ensures.count (subst (λ (a : Arrival). PutsArrivals c.loop-at.put c.loop-at.out
          (a ∷ fill (push.new.rests == 1)) put.new.arrivals) told put.ensures.put);
    }
