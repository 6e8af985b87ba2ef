use Rattle.std.proofs.Common.{◌+◌, refl, sym, ap, arith, length-append}
use Rattle.bus_line.specs.declared.line.Line.TheVariants.{First, Second}
use Rattle.bus_tap.proofs.BlockLemmas.{facts-block, timed-block}
use Rattle.bus_tap.proofs.tap.Tap.consume_block.Goals as goal

pub returns-clause-taken : goal.returns-clause-taken
returns-clause-taken c = λ more is.
    let self = c.self.inside in
    let counted = c.take_block-counted.result in
    rw (← c.self.view_is) (record {
      hold = refl;
      jump = refl;
      samples = ap (λ n. self.samples + n) (sym is.count);
      after = λ ss after.
          let took = c.take_block-counted.ensures.taken self.hold ss more is after.sampler in
          let one = c.note_block.ensures.facts _ _ _ _ after.first in
          let two = c.note_block-2.ensures.facts _ _ _ _ after.second in
          record {
            samples = omega (arith, after.samples, is.count, length-append ss more);
            sampler = took.0;
            first = facts-block self.hold ss more is.count First counted.first took.1.0 self.jump c.note_block.new.self
                (rw (after.samples) at one);
            second = facts-block self.hold ss more is.count Second counted.second took.1.1 self.jump
                c.note_block-2.new.self (rw (after.samples) at two);
          };
      timed = λ ss after.
          let took = c.take_block-counted.ensures.taken self.hold ss more is after.sampler in
          rw (after.samples) (timed-block self.hold ss more is.count counted
          (record { first = c.edges.result; second = c.edges-2.result }) took.1 c.edges.ensures c.edges-2.ensures);
    })
