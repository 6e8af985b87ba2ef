use Rattle.std.proofs.Common.{◌≡◌, ◌+◌, ◌-◌, suc, sym, ap, ◌∙◌, arith}
use Rattle.bus_line.specs.declared.line.Line.TheVariants.{Second}
use Rattle.bus_tap.specs.Arrival.{own}
use Rattle.bus_tap.proofs.ArrivalLemmas.{arrivals-none}
use Rattle.bus_tap.proofs.QuietLemmas.{none-more, octet-none}
use Rattle.bus_tap.proofs.rest.past_second.Goals as goal

pub loop-past-init : goal.loop-past-init
loop-past-init c = record {
  within = omega (arith, c.requires.some);
  none = λ bits.
      let none : c.args.end - c.args.end ≡ 0 = omega arith in
      rw none (ap (own Second) (arrivals-none bits c.args.lines.now c.args.end));
}

pub loop-past-preserved-then-lines-past-eq0 : goal.loop-past-preserved-then-lines-past-eq0
loop-past-preserved-then-lines-past-eq0 c =
    let past = c.loop-past.past in
    let before = c.loop-past.invariant in
    record {
      within = omega (arith, before.within, c.if-past-eq0.true);
      none = λ bits.
          let count : c.args.end - (past - 8) ≡ 8 + (c.args.end - past) =
          omega (arith, before.within, c.loop-past-test.true, c.if-past-eq0.true) in
          rw count (octet-none bits c.args.lines.now past (c.args.end - past) (omega (arith, c.loop-past-test.true))
          c.if-past-eq0.true c.if-lines-past-eq0.true (before.none bits));
    }

pub loop-past-preserved : goal.loop-past-preserved
loop-past-preserved c =
    let past = c.loop-past.past in
    let before = c.loop-past.invariant in
    record {
      within = omega (arith, before.within, c.loop-past-test.true);
      none = λ bits.
          let count : c.args.end - (past - 1) ≡ suc (c.args.end - past) =
          omega (arith, before.within, c.loop-past-test.true) in
          let here : past - 1 + 1 ≡ past = omega (arith, c.loop-past-test.true) in
          rw count (none-more bits c.args.lines.now (past - 1) (c.args.end - past)
          (sym c.bit_at.ensures ∙ c.if-bit_at.false) (rw here (before.none bits)));
    }

pub returns-clause-behind : goal.returns-clause-behind
returns-clause-behind c = λ bits.
    let here : c.loop-past.past ≡ c.args.from = omega (arith, c.loop-past.invariant.within, c.loop-past-test.false) in
    rw here at (c.loop-past.invariant.none bits)
