use Rattle.std.proofs.Common.{refl, inr}
use Rattle.bus_sample.specs.Recording.{recorded, levels}
use Rattle.bus_sample.proofs.CloseLemmas.{whole-front}
use Rattle.bus_sample.proofs.reader.SampleRun.end.Goals as goal

pub returns-in-Ok-clause-samples : goal.returns-in-Ok-clause-samples
returns-in-Ok-clause-samples g c = λ after start xs ends.
    let self = c.args.self.now in
    let facts = c.facts.ensures.facts (levels self.options (recorded self.options.form xs)) ends.2.taken.tap in (
      c.requires.size,
      ends.0,
      ends.1,
      c.in-Ok.ensures start _ _ ends.2.taken.marks,
      rw (c.requires.given.0, c.requires.given.1) at facts,
    )

pub returns-in-Err-clause-samples : goal.returns-in-Err-clause-samples
returns-in-Err-clause-samples g c = λ after start xs ends. (
  recorded c.args.self.now.options.form xs,
  _,
  whole-front _,
  inr refl,
  c.in-Err.ensures start _ _ ends.2.taken.marks,
)
