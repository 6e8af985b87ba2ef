use Rattle.std.proofs.Common.{arith}
use Rattle.bus_sample.proofs.MarksLemmas.{ended-none, ended-some}
use Rattle.bus_sample.proofs.marks.Marks.end_line.Goals as goal

pub returns-then-self-eq0-clause-ended : goal.returns-then-self-eq0-clause-ended
returns-then-self-eq0-clause-ended c = λ start now xs marked.
    ended-none start now c.args.self.now xs marked c.if-self-eq0.true

pub returns-clause-ended : goal.returns-clause-ended
returns-clause-ended c = λ start now xs marked.
    ended-some start now c.args.self.now xs marked c.push.new.self (omega (arith, c.if-self-eq0.false))
    c.push.ensures.items
