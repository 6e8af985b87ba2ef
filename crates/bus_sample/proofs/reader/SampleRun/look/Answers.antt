use Rattle.std.proofs.Common.{◌++◌, refl}
use Rattle.bus_sample.specs.Recording.{recorded, levels}
use Rattle.bus_sample.proofs.LookLemmas.{told-quiet, told-more, told-cut}
use Rattle.bus_sample.proofs.reader.SampleRun.look.Goals as goal

pub returns-then-not-self : goal.returns-then-not-self
returns-then-not-self g c = λ start xs ys some few after told.
    told-quiet c.args.self.now.options start _ xs ys told c.if-not-self.true

pub returns-in-Ok : goal.returns-in-Ok
returns-in-Ok g c = λ start xs ys some few after told.
    let self = c.args.self.now in
    let facts = c.facts.ensures.facts (levels self.options (recorded self.options.form (xs ++ ys))) after in
    told-more self.options start _ xs ys told _ c.facts.result c.if-not-self.false some few
    (rw (c.requires.given.0, c.requires.given.1) at facts) c.in-Ok.ensures.whole

pub returns-in-Err : goal.returns-in-Err
returns-in-Err g c = λ start xs ys some few after told.
    let self = c.args.self.now in
    let facts = c.facts.ensures.facts (levels self.options (recorded self.options.form (xs ++ ys))) after in (
      refl,
      told-cut self.options start _ xs ys told _ c.facts.result c.if-not-self.false some few
          (rw (c.requires.given.0, c.requires.given.1) at facts) c.in-Err.field-0.sent c.in-Err.ensures.short
          c.in-Err.ensures.part,
    )
