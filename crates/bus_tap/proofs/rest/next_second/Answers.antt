use Rattle.std.proofs.Common.{◌≡◌, ◌+◌, ◌-◌, sym, ap, ◌∙◌, arith}
use Rattle.bus_line.specs.declared.line.Line.TheVariants.{Second}
use Rattle.bus_tap.specs.Arrival.{own}
use Rattle.bus_tap.proofs.ArrivalLemmas.{arrivals-none}
use Rattle.bus_tap.proofs.QuietLemmas.{none-behind, octet-behind}
use Rattle.bus_tap.proofs.rest.next_second.Goals as goal

pub loop-at-init : goal.loop-at-init
loop-at-init c = record {
  within = omega (arith, c.requires.some);
  none = λ bits.
      let none : c.args.from - c.args.from ≡ 0 = omega arith in
      rw none (ap (own Second) (arrivals-none bits c.args.lines.now c.args.from));
}

pub loop-at-preserved-then-lines-at-eq0 : goal.loop-at-preserved-then-lines-at-eq0
loop-at-preserved-then-lines-at-eq0 c =
    let from = c.args.from in
    let n = c.loop-at.at - from in
    let before = c.loop-at.invariant in
    let here : from + n ≡ c.loop-at.at = omega (arith, before.within) in
    record {
      within = omega (arith, before.within, c.if-at-eq0.true);
      none = λ bits.
          let count : c.loop-at.at + 8 - from ≡ n + 8 = omega (arith, before.within) in
          rw count (octet-behind bits c.args.lines.now from n (rw here c.if-at-eq0.true) (rw here
          c.if-lines-at-eq0.true)
          (before.none bits));
    }

pub loop-at-preserved : goal.loop-at-preserved
loop-at-preserved c =
    let from = c.args.from in
    let n = c.loop-at.at - from in
    let before = c.loop-at.invariant in
    let here : from + n ≡ c.loop-at.at = omega (arith, before.within) in
    record {
      within = omega (arith, before.within, c.loop-at-test.true);
      none = λ bits.
          let count : c.loop-at.at + 1 - from ≡ n + 1 = omega (arith, before.within) in
          rw count (none-behind bits c.args.lines.now from n (rw here (sym c.bit_at.ensures ∙ c.if-not-bit_at.true))
          (before.none bits));
    }
