use Rattle.std.proofs.Common.{◌∙◌}
use Rattle.bus_tap.proofs.tap.take_block.Goals as goal

pub returns-in-Some-clause-taken : goal.returns-in-Some-clause-taken
returns-in-Some-clause-taken c = λ hold ss more is has.
    let was = rw (c.in-Some.is) at has in
    let took = c.take.ensures.taken ss more is was.1 in
    ((c.take.ensures.hold ∙ was.0, took.0), rw (was.0) at took.1)
