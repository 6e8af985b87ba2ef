use Rattle.std.proofs.Common.{◌≡◌, ◌+◌, ◌-◌, ℕ, sym, ap, ◌∙◌, arith}
use Rattle.bus_line.specs.Run.{ones_after}
use Rattle.bus_line.specs.declared.line.Line.TheVariants.{Second}
use Rattle.bus_tap.specs.Arrival.{arrivals_from, own}
use Rattle.bus_tap.proofs.ArrivalLemmas.{arrivals-none}
use Rattle.bus_bits.proofs.OctetLemmas.{least}
use Rattle.bus_tap.proofs.QuietLemmas.{ones-first, ones-one, ones-zero}
use Rattle.bus_tap.proofs.rest.ones_before.Goals as goal

pub returns-then-not-bit_at : goal.returns-then-not-bit_at
returns-then-not-bit_at c =
    let from = c.args.from in
    let n = c.loop-at.at - 1 - from in
    let here : from + n ≡ c.loop-at.at - 1 = omega (arith, c.loop-at.invariant.within, c.loop-at-test.true) in
    let next : n + 1 ≡ c.loop-at.at - from = omega (arith, c.loop-at.invariant.within, c.loop-at-test.true) in
    let none = rw next at (ones-zero c.args.others from n c.args.bits.now c.args.lines.now
    (rw here (sym c.bit_at.ensures ∙ c.if-bit_at.true))
    (rw here (sym c.bit_at-then-bit_at.ensures ∙ c.if-not-bit_at.true))) in
    omega (arith, c.loop-at.invariant.ones, none, c.loop-at.invariant.few)

pub loop-at-preserved-then-bit_at : goal.loop-at-preserved-then-bit_at
loop-at-preserved-then-bit_at c =
    let from = c.args.from in
    let n = c.loop-at.at - 1 - from in
    let here : from + n ≡ c.loop-at.at - 1 = omega (arith, c.loop-at.invariant.within, c.loop-at-test.true) in
    let next : n + 1 ≡ c.loop-at.at - from = omega (arith, c.loop-at.invariant.within, c.loop-at-test.true) in
    let one = rw next at (ones-one c.args.others from n c.args.bits.now c.args.lines.now
    (rw here (sym c.bit_at.ensures ∙ c.if-bit_at.true))
    (rw here (sym c.bit_at-then-bit_at.ensures ∙ c.if-not-bit_at.false))) in
    record {
      within = omega (arith, c.loop-at.invariant.within, c.loop-at-test.true);
      few = omega (arith, c.if-ones-lt-IDLE_ONES.true);
      ones = omega (arith, c.loop-at.invariant.ones, one);
    }

pub loop-at-preserved : goal.loop-at-preserved
loop-at-preserved c =
    let from = c.args.from in
    let n = c.loop-at.at - 1 - from in
    let here : from + n ≡ c.loop-at.at - 1 = omega (arith, c.loop-at.invariant.within, c.loop-at-test.true) in
    let next : n + 1 ≡ c.loop-at.at - from = omega (arith, c.loop-at.invariant.within, c.loop-at-test.true) in
    let none = rw next at (ones-first c.args.others from n c.args.bits.now c.args.lines.now
    (rw here (sym c.bit_at.ensures ∙ c.if-bit_at.false))) in
    record {
      within = omega (arith, c.loop-at.invariant.within, c.loop-at-test.true);
      few = c.loop-at.invariant.few;
      ones = c.loop-at.invariant.ones ∙ ap (λ (n : ℕ). n + c.loop-at.ones) none;
    }

pub returns : goal.returns
returns c =
    let here : c.loop-at.at - c.args.from ≡ 0 = omega (arith, c.if-at-from.false) in
    let start : ones_after c.args.others
    (own Second (arrivals_from c.args.bits.now c.args.lines.now c.args.from (c.loop-at.at - c.args.from)))
    ≡ c.args.others =
    rw here (ap (λ ys. ones_after c.args.others (own Second ys))
    (arrivals-none c.args.bits.now c.args.lines.now c.args.from)) in
    omega (arith, c.min.ensures ∙ least (c.loop-at.ones + c.args.others) 15, c.loop-at.invariant.ones, start)
