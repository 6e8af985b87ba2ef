use Rattle.std.proofs.Common.{arith}
use Rattle.bus_tap.proofs.FactsLemmas.{longest-stays, jumps-at}
use Rattle.bus_tap.proofs.facts.LineFacts.note_bit.Goals as goal

pub returns-then-last-self-clause-jumps : goal.returns-then-last-self-clause-jumps
returns-then-last-self-clause-jumps c = λ es bits was jumps.
    let now = c.args.self.now in
    jumps-at es c.args.sample c.note-2.new.self c.args.jump now.bits.last now.step
    (omega (arith, bits.count, c.if-bits-eq0.false, c.if-bits-eq1.false)) bits.last was
    (rw (c.abs_diff.ensures) at (c.note-2.ensures.tallied _ jumps))

pub returns-else-last-self-clause-gap : goal.returns-else-last-self-clause-gap
returns-else-last-self-clause-gap c = λ es bits gap.
    longest-stays es c.args.sample c.args.self.now.gap
    (omega (arith, bits.count, c.if-bits-eq0.false, c.if-bits-eq1.false))
    (rw (← bits.last) c.if-last-self.false) gap

pub returns-else-last-self-clause-jumps : goal.returns-else-last-self-clause-jumps
returns-else-last-self-clause-jumps c = λ es bits was jumps.
    let now = c.args.self.now in
    jumps-at es c.args.sample c.note-2.new.self c.args.jump now.bits.last now.step
    (omega (arith, bits.count, c.if-bits-eq0.false, c.if-bits-eq1.false)) bits.last was
    (rw (c.abs_diff.ensures) at (c.note-2.ensures.tallied _ jumps))
