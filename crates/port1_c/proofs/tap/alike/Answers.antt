use Rattle.std.proofs.Common.{◌≡◌, ◌+◌, ◌*◌, ◌≤◌, length, sym, ap, ◌∙◌, arith}
use Rattle.bus_tap.specs.Recorded.{record_at}
use Rattle.port1_c.proofs.TapLemmas.{octets-alike, up-to}
use Rattle.port1_c.proofs.tap.alike.Goals as goal

pub returns-then-width-eq1-clause-same : goal.returns-then-width-eq1-clause-same
returns-then-width-eq1-clause-same c =
    let within : c.args.end * 1 ≤ length c.args.octets.now = rw (c.if-width-eq1.true) at c.requires.within in
    rw (c.if-width-eq1.true) (octets-alike c.args.octets.now c.args.at c.args.end c.alike.result c.args.sample
    (omega (arith, within)) (omega (arith, c.alike.ensures.some.1)) c.alike.ensures.same
    (rw (c.if-width-eq1.true) at c.requires.first))

pub loop-count-init : goal.loop-count-init
loop-count-init c = record {
  some = omega arith;
  within = omega (arith, c.requires.order);
  same = λ k inside.
      let first : c.args.at + k ≡ c.args.at = omega (arith, inside) in
      ap (record_at c.args.width c.args.octets.now) first ∙ sym c.requires.first;
}

pub loop-count-preserved : goal.loop-count-preserved
loop-count-preserved c = record {
  some = omega arith;
  within = omega (arith, c.loop-count-test.true);
  same = up-to (λ k. record_at c.args.width c.args.octets.now (c.args.at + k) ≡ c.args.sample) c.loop-count.count
      c.loop-count.invariant.same (sym c.sample_at.ensures ∙ c.if-sample_at-sample.true);
}
