use Rattle.std.proofs.Common.{arith}
use Rattle.bus_line.proofs.TimeFillLemmas.{ones-none, ones-front, ones-octets}
use Rattle.bus_line.proofs.decoder.time_fill.ones_end.Goals as goal

pub returns-then-end-from-lt64-clause-ones : goal.returns-then-end-from-lt64-clause-ones
returns-then-end-from-lt64-clause-ones c = ones-none c.args.octets.now c.args.from

pub loop-at-init : goal.loop-at-init
loop-at-init c = record {
  begun = omega arith;
  within = omega (arith, c.if-end-from-lt64.false);
  whole = omega arith;
  ones = ones-front c.args.octets.now c.args.from c.seven_octets_at.result _ c.seven_octets_at.ensures
      c.if-seven_octets_at.false (omega arith);
}

pub loop-at-preserved : goal.loop-at-preserved
loop-at-preserved c =
    let now = c.loop-at.invariant in
    record {
      begun = omega (arith, now.begun);
      within = omega (arith, c.loop-at-test.true);
      whole = omega (arith, now.whole);
      ones = ones-octets c.args.octets.now c.args.from c.loop-at.at c.eight_at.result now.begun now.whole now.ones
          c.eight_at.ensures c.if-eight_at.false;
    }

pub returns-then-at-from-clause-ones : goal.returns-then-at-from-clause-ones
returns-then-at-from-clause-ones c =
    ones-front c.args.octets.now c.args.from c.seven_octets_at.result _ c.seven_octets_at.ensures
    c.if-seven_octets_at.false (omega arith)
