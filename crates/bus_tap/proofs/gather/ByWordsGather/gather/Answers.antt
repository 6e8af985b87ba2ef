use Rattle.std.proofs.Common.{◌≡◌, ◌+◌, ◌-◌, ◌*◌, slice_index, ap, ◌∙◌, arith}
use Rattle.bus_tap.specs.Blocks.{has_bit}
use Rattle.bus_tap.proofs.WireLemmas.{eight-before, few-eights}
use Rattle.bus_tap.proofs.gather.ByWordsGather.gather.Goals as goal

pub loop-taken-preserved : goal.loop-taken-preserved
loop-taken-preserved c =
    let before = c.loop-taken.invariant in
    let next = eight-before (λ k. has_bit (slice_index c.args.octets.now k) c.args.at) c.loop-taken.word
    c.eight_bits.result c.loop-taken.taken (omega (arith, c.loop-taken-test.true)) before.fits c.eight_bits.ensures.few
    before.bits c.eight_bits.ensures.bits in record {
      fits = next.0;
      bits = next.1;
    }

pub overflow_mul-word : goal.overflow_mul-word
overflow_mul-word c =
    omega (arith, few-eights c.loop-taken.taken c.loop-taken-test.true, c.loop-taken.invariant.fits)

pub overflow_add-word : goal.overflow_add-word
overflow_add-word c =
    omega (
      arith,
      few-eights c.loop-taken.taken c.loop-taken-test.true,
      c.loop-taken.invariant.fits,
      c.eight_bits.ensures.few,
    )

pub returns : goal.returns
returns c = λ i inside.
    let all : c.loop-taken.taken ≡ 8 = omega (arith, c.loop-taken-test.false, c.loop-taken.auto.taken-end) in
    c.loop-taken.invariant.bits i (omega (arith, all, inside))
    ∙ ap (λ k. has_bit (slice_index c.args.octets.now k) c.args.at) (omega (arith, all))
