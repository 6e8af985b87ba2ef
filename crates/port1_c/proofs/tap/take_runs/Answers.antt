use Rattle.std.proofs.Common.{◌≡◌, refl, sym, ◌∙◌, arith}
use Rattle.port1_c.proofs.TapLemmas.{runs-none, runs-part, runs-whole}
use Rattle.port1_c.proofs.tap.take_runs.Goals as goal

pub loop-at-init : goal.loop-at-init
loop-at-init c = record {
  order = omega arith;
  within = λ inside. inside;
  same = refl;
  long = refl;
  fits = c.requires.fits;
  arrived = omega (arith, c.requires.none);
  tapped = rw (c.requires.none) (runs-none c.args.tap.now c.args.stops.now c.args.arrivals.now c.args.wires.now
      c.args.runs.now c.args.at.now);
}

pub returns-then-left-gt0-clause-all : goal.returns-then-left-gt0-clause-all
returns-then-left-gt0-clause-all c = λ _ _.
    omega (arith, c.take_run-left.ensures.all c.if-left-gt0.true, c.loop-at.invariant.long)

pub returns-then-left-gt0-clause-taken : goal.returns-then-left-gt0-clause-taken
returns-then-left-gt0-clause-taken c =
    let before = c.loop-at.invariant in
    let take = c.take_run-left in
    rw (before.same) (runs-part c.args.tap.now c.loop-at.tap take.new.tap c.args.stops.now c.loop-at.stops
    take.new.stops c.args.arrivals.now c.loop-at.arrivals take.new.arrivals c.args.wires.now c.args.runs.now
    c.args.at.now c.loop-at.at c.loop-at.arrived take.new.arrived take.result
    (rw (before.same) at c.loop-at-test.true) (sym before.long) (rw (before.same) at take.ensures.left) before.tapped
    (rw (c.channels.ensures, before.same) at take.ensures.taken))

pub loop-at-preserved : goal.loop-at-preserved
loop-at-preserved c =
    let before = c.loop-at.invariant in
    let take = c.take_run-left in
    let none : take.result ≡ 0 = omega (arith, c.if-left-gt0.false) in record {
      order = omega (arith, before.order);
      within = λ inside. (let there = (rw (before.same) at c.loop-at-test.true) in omega (arith, there));
      same = before.same;
      long = take.ensures.long.0 ∙ before.long;
      fits = omega (arith, take.ensures.samples, c.if-count-samples.false, c.samples.ensures, before.fits);
      arrived = omega (arith, take.ensures.long.0, take.ensures.long.1);
      tapped = runs-whole c.args.tap.now c.loop-at.tap take.new.tap c.args.stops.now c.loop-at.stops take.new.stops
          c.args.arrivals.now c.loop-at.arrivals take.new.arrivals c.args.wires.now c.args.runs.now c.args.at.now
          c.loop-at.at c.loop-at.arrived take.new.arrived take.result (rw (before.same) at c.loop-at-test.true)
          (sym before.long) none before.tapped (rw (c.channels.ensures, before.same) at take.ensures.taken);
    }
