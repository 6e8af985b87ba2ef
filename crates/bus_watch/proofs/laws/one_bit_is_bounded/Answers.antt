use Rattle.bus_watch.proofs.LawsBitLemmas.{bit-costs, pair-costs, closed-paid}
use Rattle.bus_watch.proofs.laws.one_bit_is_bounded.Goals as goal

pub returns-clause-costs : goal.returns-clause-costs
returns-clause-costs c = bit-costs c.reports_grow.ensures.more c.settled_places.ensures.one
    c.settled_places.ensures.stored

pub returns-clause-pairs : goal.returns-clause-pairs
returns-clause-pairs c =
    pair-costs (bit-costs c.reports_grow.ensures.more c.settled_places.ensures.one c.settled_places.ensures.stored)

pub returns-clause-paid : goal.returns-clause-paid
returns-clause-paid c = closed-paid c.reports_are.ensures.due c.frame_is_spelled.ensures
