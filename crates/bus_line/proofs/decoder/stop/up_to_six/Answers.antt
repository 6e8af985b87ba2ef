use Rattle.std.proofs.Common.{refl, arith}
use Rattle.bus_line.proofs.TimeFillLemmas.{first-six, no-six}
use Rattle.bus_line.proofs.decoder.stop.up_to_six.Goals as goal

pub returns-then-six-eq0-clause-none : goal.returns-then-six-eq0-clause-none
returns-then-six-eq0-clause-none c = λ _. (refl, no-six c.args.word c.if-six-eq0.true)

pub returns-then-six-eq0-clause-before : goal.returns-then-six-eq0-clause-before
returns-then-six-eq0-clause-before c = λ i before. no-six c.args.word c.if-six-eq0.true i (omega (arith, before))

pub overflow_sub-result : goal.overflow_sub-result
overflow_sub-result c = omega (arith, (first-six c.args.word c.if-six-eq0.false).least)

pub returns-clause-count : goal.returns-clause-count
returns-clause-count c =
    let six = first-six c.args.word c.if-six-eq0.false in
    (omega (arith, six.least), omega (arith, six.most))

pub returns-clause-before : goal.returns-clause-before
returns-clause-before c = λ i before.
    let six = first-six c.args.word c.if-six-eq0.false in
    six.none i (omega (arith, before, six.least))
