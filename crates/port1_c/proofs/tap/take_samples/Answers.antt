use Rattle.std.proofs.Common.{◌≡◌, ◌-◌, sym, arith}
use Rattle.port1_c.proofs.TapLemmas.{levels-more, tapped-none}
use Rattle.port1_c.proofs.tap.take_samples.Goals as goal

pub loop-at-init : goal.loop-at-init
loop-at-init c =
    let none : c.args.at.now - c.args.at.now ≡ 0 = omega arith in record {
      order = omega arith;
      within = c.requires.order;
      fits = c.requires.fits;
      arrived = omega (arith, c.requires.none);
      tapped = rw (none, c.requires.none) (tapped-none c.args.tap.now c.args.stops.now c.args.arrivals.now);
    }

pub loop-at-preserved : goal.loop-at-preserved
loop-at-preserved c =
    let before = c.loop-at.invariant in
    let front = c.take_front.ensures in
    let next = levels-more c.args.wires.now c.args.width c.args.octets.now c.args.at.now c.loop-at.at
    c.take_front.result before.order in record {
      order = omega (arith, before.order);
      within = front.count.1;
      fits = omega (arith, before.fits, front.samples, front.count.1);
      arrived = omega (arith, front.long.0, front.long.1);
      tapped = rw next (front.taken _ _ _ _ (sym c.loop-at.auto.arrivals) before.tapped);
    }
