use Rattle.std.proofs.Common.{arith}
use Rattle.bus_line.proofs.TimeFillLemmas.{flags-none, flags-more, flags-shown}
use Rattle.bus_line.proofs.decoder.time_fill.flags_end.Goals as goal

pub loop-at-init : goal.loop-at-init
loop-at-init c = record {
  begun = omega arith;
  within = c.requires.some;
  flags = flags-none c.args.octets.now c.args.from;
}

pub returns-then-bits-ne-SEVEN_FLAGS-clause-flags : goal.returns-then-bits-ne-SEVEN_FLAGS-clause-flags
returns-then-bits-ne-SEVEN_FLAGS-clause-flags c =
    let now = c.loop-at.invariant in
    let found = c.flags_in in
    flags-more c.args.octets.now c.args.from c.loop-at.at c.seven_octets_at-bits.result found.result now.begun now.flags
    c.seven_octets_at-bits.ensures found.ensures.few found.ensures.are

pub loop-at-preserved : goal.loop-at-preserved
loop-at-preserved c =
    let now = c.loop-at.invariant in
    let bits = c.seven_octets_at-bits in
    record {
      begun = omega (arith, now.begun);
      within = omega (arith, c.loop-at-test.true);
      flags = flags-more c.args.octets.now c.args.from c.loop-at.at bits.result 7 now.begun now.flags bits.ensures
          (omega arith) (flags-shown bits.result c.if-bits-ne-SEVEN_FLAGS.false);
    }
