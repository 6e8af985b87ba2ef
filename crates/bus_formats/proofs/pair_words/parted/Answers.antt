use Rattle.std.proofs.Common.{◌*◌, arith, ◌∙◌, slice_index}
use Rattle.bus_formats.proofs.PairWordsLemmas.{parted-bits, half_at}
use Rattle.bus_formats.proofs.pair_words.parted.Goals as goal

pub returns-clause-low : goal.returns-clause-low
returns-clause-low c =
    parted-bits 32 c.args.low (slice_index c.even_bits.result 0) (slice_index c.even_bits-2.result 0)
    (λ i below. c.even_bits.ensures 0 (omega arith) i below)
    (λ i below. c.even_bits-2.ensures 0 (omega arith) i below ∙ half_at c.args.low (2 * i))

pub returns-clause-high : goal.returns-clause-high
returns-clause-high c =
    parted-bits 32 c.args.high (slice_index c.even_bits.result 1) (slice_index c.even_bits-2.result 1)
    (λ i below. c.even_bits.ensures 1 (omega arith) i below)
    (λ i below. c.even_bits-2.ensures 1 (omega arith) i below ∙ half_at c.args.high (2 * i))
