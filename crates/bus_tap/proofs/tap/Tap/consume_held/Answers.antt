use Rattle.std.proofs.Common.{refl, arith}
use Rattle.bus_tap.proofs.HeldLemmas.{first-settled, consumes-held}
use Rattle.bus_tap.specs.Internal.Taps.{tap_state}
use Rattle.bus_tap.proofs.tap.Tap.consume_held.Goals as goal

pub returns-clause-settled : goal.returns-clause-settled
returns-clause-settled c = first-settled c.new.result c.args.sample c.new.ensures.after

pub invariant_of-self : goal.invariant_of-self
invariant_of-self c =
    let room = rw (← c.self.view_is) at c.requires.room in record {
      samples = omega (arith, room, c.from.ensures);
      first = c.note.ensures.within;
      second = c.note-2.ensures.within;
      alike = c.new.ensures.hold;
      still = returns-clause-settled c;
    }

pub returns-clause-taken : goal.returns-clause-taken
returns-clause-taken c =
    let self = c.self.inside in
    let settled = rw (← c.self.view_is) at c.requires.settled in
    let first = rw (c.from.ensures, c.of-old_first.ensures, c.of-first.ensures) at c.note.ensures.facts in
    let second = rw (c.from.ensures, c.of-old_second.ensures, c.of-second.ensures) at c.note-2.ensures.facts in
    let bit = rw (c.of-old_first.ensures, c.of-first.ensures) at c.bit_after.ensures in
    let other = rw (c.of-old_second.ensures, c.of-second.ensures) at c.bit_after-2.ensures in
    rw (← c.self.view_is, c.from.ensures) (consumes-held (tap_state self) self.sampler c.new.result c.args.before
    c.args.sample c.note.new.self c.note-2.new.self
    (record { first = c.bit_after.result; second = c.bit_after-2.result }) refl
    settled c.self.invariant.alike c.new.ensures.hold (returns-clause-settled c) first second (rw (bit, other) refl))
