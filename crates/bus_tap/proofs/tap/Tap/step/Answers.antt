use Rattle.std.proofs.Common.{refl, arith}
use Rattle.bus_line.specs.declared.line.Line.TheVariants.{First, Second}
use Rattle.bus_tap.proofs.EachLemmas.{length-more}
use Rattle.bus_tap.proofs.TapLemmas.{facts-more}
use Rattle.bus_tap.proofs.tap.Tap.step.Goals as goal

pub returns : goal.returns
returns c =
    let s = c.args.sample in
    let self = c.self.inside in
    rw (← c.self.view_is) (record {
      hold = refl;
      jump = refl;
      samples = refl;
      after = λ ss after.
          let levels = c.step_sampler-step.ensures.levels ss after.sampler in
          let one = c.note.ensures.facts _ _ _ _ after.first in
          let two = c.note-2.ensures.facts _ _ _ _ after.second in
          record {
            samples = omega (arith, after.samples, length-more ss s);
            sampler = c.step_sampler-step.ensures.after ss after.sampler;
            first = facts-more self.hold ss s self.jump First c.note.new.self _ _ levels.0 levels.1
                (rw (after.samples) at one);
            second = facts-more self.hold ss s self.jump Second c.note-2.new.self _ _ levels.2 levels.3
                (rw (after.samples) at two);
          };
      timed = λ ss after. rw (after.samples) (c.step_sampler-step.ensures.timed ss after.sampler);
    })
