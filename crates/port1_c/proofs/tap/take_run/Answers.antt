use Rattle.std.proofs.Common.{◌≡◌, ◌+◌, ◌-◌, replicate, refl, ap, ◌∙◌, arith}
use Rattle.bus_tap.proofs.TapLemmas.{replicate-both}
use Rattle.port1_c.proofs.TapLemmas.{taps-further, taps-none}
use Rattle.port1_c.proofs.tap.take_run.Goals as goal

pub loop-left-init : goal.loop-left-init
loop-left-init c =
    let none : c.args.count - c.args.count ≡ 0 = omega arith in record {
      left = omega arith;
      fits = c.requires.fits;
      samples = refl;
      long = refl;
      arrived = c.requires.within;
      tapped = rw none (taps-none c.args.tap.now c.args.stops.now c.args.arrivals.now c.args.arrived.now);
    }

pub loop-left-preserved : goal.loop-left-preserved
loop-left-preserved c =
    let before = c.loop-left.invariant in
    let n = c.take_some-left.result in
    let some = c.take_some-left.ensures in
    let new = c.take_some-left.new in
    let all : c.args.count - (c.loop-left.left - n) ≡ (c.args.count - c.loop-left.left) + n =
    omega (arith, before.left, some.count.0) in record {
      left = omega (arith, before.left);
      fits = omega (arith, before.fits, some.samples, some.count.0);
      samples = omega (arith, before.samples, some.samples, some.count.0);
      long = some.long ∙ before.long;
      arrived = omega (arith, some.few, some.long, c.if-arrivals-arrived-ge-MOST_ARRIVALS.true);
      tapped = rw (ap (λ k. replicate k c.args.levels) all
          ∙ replicate-both (c.args.count - c.loop-left.left) n c.args.levels)
          (taps-further c.args.tap.now c.loop-left.tap new.tap c.args.stops.now c.loop-left.stops new.stops
          c.args.arrivals.now c.loop-left.arrivals new.arrivals c.args.arrived.now c.loop-left.arrived new.arrived
          (replicate (c.args.count - c.loop-left.left) c.args.levels) (replicate n c.args.levels) before.long
          before.tapped some.taken);
    }
