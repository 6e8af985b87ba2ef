use Rattle.std.proofs.Common.{◌∙◌, arith}
use Rattle.bus_tap.proofs.AlikeLemmas.{eight-more}
use Rattle.bus_tap.proofs.octets.eights_alike.Goals as goal

pub loop-count-preserved : goal.loop-count-preserved
loop-count-preserved c =
    let before = c.loop-count.invariant in record {
      within = omega (arith, before.within, c.loop-count-test.true);
      same = eight-more c.args.octets.now c.loop-count.count c.args.first
          (λ i. omega (arith, c.type_inv.octets i)) c.ranges.first.fits
          (omega (arith, before.within, c.loop-count-test.true)) c.eight_at.result c.eight_at.type_inv
          c.eight_at.ensures (c.if-eight_at-eight.true ∙ c.from_le_bytes-eight.ensures) before.same;
    }
