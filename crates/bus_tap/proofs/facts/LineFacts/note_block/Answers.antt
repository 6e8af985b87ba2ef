use Rattle.std.proofs.Common.{ap, ◌∙◌}
use Rattle.std.specs.Prelude.{◌&&◌, bit_and, bit_xor}
use Rattle.bus_tap.specs.Blocks.{has_bit}
use Rattle.bus_tap.specs.Internal.Counts.{clock_changed, clock_rose, data_changed, data_changed_high}
use Rattle.bus_tap.proofs.BlockLemmas.{marked-same}
use Rattle.bus_tap.proofs.OnesLemmas.{bit-and, bit-rose, bit-xor}
use Rattle.bus_tap.proofs.facts.LineFacts.note_block.Goals as goal

pub returns-clause-facts : goal.returns-clause-facts
returns-clause-facts c = λ cs ls hs bs facts.
    let counted = c.args.counted in
    let from = c.args.from in
    let others = c.note_bits.ensures.others in
    let changed = bit_xor counted.before.bits counted.after.bits in
    let clock = marked-same from _ (clock_changed counted)
    (λ i inside. bit-xor counted.before.clock counted.after.clock i) in
    let data_is = marked-same from (has_bit changed) (data_changed counted)
    (λ i inside. bit-xor counted.before.bits counted.after.bits i) in
    let high = marked-same from (has_bit (bit_and changed counted.after.clock)) (data_changed_high counted)
    (λ i inside. bit-and changed counted.after.clock i
    ∙ ap (λ b. b && has_bit counted.after.clock i) (bit-xor counted.before.bits counted.after.bits i)) in
    let rose = marked-same from _ (clock_rose counted)
    (λ i inside. bit-rose counted.before.clock counted.after.clock i) in
    let bits = rw (rose) at (c.note_bits.ensures.facts bs (record {
      bits = facts.bits;
      gap = facts.gap;
      jumps = facts.jumps;
      step = facts.step;
    })) in record {
      clock_changes = rw (others.0, ← clock) (c.note_block.ensures.tallied cs facts.clock_changes);
      data_changes = rw (others.1, ← data_is) (c.note_block-2.ensures.tallied ls facts.data_changes);
      data_changes_high = rw (others.2, ← high) (c.note_block-3.ensures.tallied hs facts.data_changes_high);
      bits = bits.bits;
      gap = bits.gap;
      jumps = bits.jumps;
      step = bits.step;
    }
