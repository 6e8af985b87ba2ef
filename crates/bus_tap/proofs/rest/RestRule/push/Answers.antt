use Rattle.std.proofs.Common.{false, sym, ◌∙◌}
use Rattle.bus_line.specs.declared.line.Line.TheVariants.{First, Second}
use Rattle.bus_tap.specs.Rested.{rested}
use Rattle.bus_tap.proofs.RestLemmas.{rested-more, comes-first, comes-second, after-first, after-second}
use Rattle.bus_tap.proofs.rest.RestRule.push.Goals as goal

pub returns-in-First-clause-rested : goal.returns-in-First-clause-rested
returns-in-First-clause-rested c = λ xs after.
    rw (c.in-First.is)
    (rested-more c.args.self.now.most xs (First, c.args.bit) c.push_first.result
    (comes-first c.args.self.now xs c.args.bit after c.push_first.ensures.within ∙ sym c.push_first.ensures.comes))

pub returns-in-First-clause-after : goal.returns-in-First-clause-after
returns-in-First-clause-after c = λ xs after.
    rw (c.in-First.is, c.push_first.ensures.stands)
    (after-first c.args.self.now xs c.args.bit after c.push_first.result
    (comes-first c.args.self.now xs c.args.bit after c.push_first.ensures.within ∙ sym c.push_first.ensures.comes))

pub returns-in-Second-clause-rested : goal.returns-in-Second-clause-rested
returns-in-Second-clause-rested c = λ xs after.
    let most = c.args.self.now.most in
    rw (c.in-Second.is)
    (rested-more most xs (Second, c.args.bit) false (comes-second most (rested most xs) c.args.bit))

pub returns-in-Second-clause-after : goal.returns-in-Second-clause-after
returns-in-Second-clause-after c = λ xs after.
    rw (c.in-Second.is, c.push_second.ensures) (after-second c.args.self.now xs c.args.bit after)
