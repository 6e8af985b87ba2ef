use Rattle.std.proofs.Common.{refl, ap, ◌∙◌, sym}
use Rattle.bus_line.specs.declared.line.Line.TheVariants.{First, Second}
use Rattle.bus_tap.specs.Internal.Held.{held_state}
use Rattle.bus_tap.specs.Sampled.{bit_on}
use Rattle.bus_tap.proofs.SampledLemmas.{held-more, edge-is, timed-more}
use Rattle.bus_tap.proofs.sampler.Sampler.sample.Goals as goal

pub returns-clause-after : goal.returns-clause-after
returns-clause-after c = λ ss reached.
    let s = c.args.sample in
    let old = rw (← c.self.view_is) at reached in
    let hold = c.self.inside.hold in
    record {
      first_clock = rw (c.sample.ensures.clock) (held-more hold _ _ ss s old.first_clock);
      first_bits = rw (c.sample.ensures.bits) (held-more hold _ _ ss s old.first_bits);
      second_clock = rw (c.sample-2.ensures.clock) (held-more hold _ _ ss s old.second_clock);
      second_bits = rw (c.sample-2.ensures.bits) (held-more hold _ _ ss s old.second_bits);
    }

pub returns-clause-timed : goal.returns-clause-timed
returns-clause-timed c = λ ss reached.
    let s = c.args.sample in
    let self = c.self.inside in
    let old = rw (← c.self.view_is) at reached in
    let new = returns-clause-after c ss reached in
    let first = ap (bit_on First) c.sample.ensures.bit
    ∙ edge-is self.hold First ss s (held_state self.first.clock) (held_state self.first.bits)
    (held_state c.sample.new.self.clock) old.first_clock old.first_bits new.first_clock in
    let second = ap (bit_on Second) c.sample-2.ensures.bit
    ∙ edge-is self.hold Second ss s (held_state self.second.clock) (held_state self.second.bits)
    (held_state c.sample-2.new.self.clock) old.second_clock old.second_bits new.second_clock in
    rw (← c.self.view_is) (timed-more self.hold ss s ∙ sym (rw (first, second) refl))
