use Rattle.std.proofs.Common.{◌==◌, sym, ◌∙◌, arith}
use Rattle.bus_bits.specs.Text.{is_bit}
use Rattle.bus_formats.proofs.TextBlockLemmas.{space-passed}
use Rattle.bus_formats.proofs.TextMarksLemmas.{space-no-bit}
use Rattle.bus_formats.proofs.text_block.pass_spaces.Goals as goal

pub loop-now-preserved : goal.loop-now-preserved
loop-now-preserved c = record {
  packed = λ block before. space-passed is_bit (λ x. x == 49) space-no-bit c.args.text.now block
      c.loop-now.now c.loop-now-test.true
      (sym c.is_skipped.ensures ∙ c.if-is_skipped.true) (c.loop-now.invariant.packed block before);
  filled = c.loop-now.invariant.filled;
  more = omega (arith, c.loop-now.invariant.more);
}
