use Rattle.std.proofs.Common.{◌≡◌, ◌+◌, ◌*◌, ◌/◌, ◌++◌, length, slice_index, ap, ◌∙◌, refl, arith}
use Rattle.bus_bits.specs.Octet.{bits_of}
use Rattle.bus_bits.specs.Bits.{bits_from}
use Rattle.bus_formats.specs.Packed.{in_pairs}
use Rattle.bus_formats.proofs.PairBlockLemmas.{pairs-parted, sixteen-parted}
use Rattle.bus_bits.proofs.WordLemmas.{bits-whole}
use Rattle.bus_formats.proofs.pair_block.part.Goals as goal

pub loop-at-init : goal.loop-at-init
unfolding bits_from in_pairs
loop-at-init c = record { within = omega arith; sixteens = refl; pairs = refl; first = refl; second = refl }

pub loop-at-preserved : goal.loop-at-preserved
loop-at-preserved c =
    let os = c.args.octets.now in
    let i = c.loop-at.at in
    let one = c.parted-words.result.first in
    let two = c.parted-words.result.second in
    let stored : 8 * (i / 2) + 64 ≡ 4 * (i + 16) = omega (arith, c.loop-at.invariant.sixteens) in
    let before : 8 * (i / 2) ≡ 4 * i = omega (arith, c.loop-at.invariant.sixteens) in
    record {
      within = omega (
        arith,
        c.loop-at.invariant.within,
        c.loop-at.invariant.sixteens,
        c.loop-at-test.true,
        c.requires.sixteens,
      );
      sixteens = omega (arith, c.loop-at.invariant.sixteens);
      pairs = pairs-parted os c.loop-at.first c.loop-at.second c.store_eight.new.octets
          c.store_eight-in-loop-at.new.octets i (i + 16) 128
          (bits_of 32 (slice_index one 0) ++ bits_of 32 (slice_index one 1))
          (bits_of 32 (slice_index two 0) ++ bits_of 32 (slice_index two 1))
          c.loop-at.invariant.pairs (omega arith)
          (sixteen-parted os i c.eight_at.result c.eight_at-in-loop-at.result (slice_index one 0) (slice_index one 1)
          (slice_index two 0) (slice_index two 1)
          c.eight_at.ensures c.eight_at-in-loop-at.ensures c.parted-words.ensures.low c.parted-words.ensures.high)
          (rw (← stored, ← before) c.store_eight.ensures.bits)
          (rw (← stored, ← before) c.store_eight-in-loop-at.ensures.bits);
      first = c.store_eight.ensures.len ∙ c.loop-at.invariant.first;
      second = c.store_eight-in-loop-at.ensures.len ∙ c.loop-at.invariant.second;
    }

pub returns-clause-pairs : goal.returns-clause-pairs
returns-clause-pairs c =
    let os = c.args.octets.now in
    let end : c.loop-at.at ≡ length os = omega (arith, c.loop-at.invariant.within, c.loop-at-test.false) in
    ap in_pairs (bits-whole os)
    ∙ (rw end at c.loop-at.invariant.pairs)
