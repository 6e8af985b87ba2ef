use Rattle.bus_watch.proofs.PairLemmas.{pairs-grow}
use Rattle.bus_watch.proofs.OrderLemmas.{merged-is-merged}
use Rattle.bus_watch.proofs.laws.pairs_grow.Goals as goal

pub returns-clause-grows : goal.returns-clause-grows
returns-clause-grows c = pairs-grow c.reports_grow.ensures.stays c.reports_are.ensures.due

pub returns-clause-merged : goal.returns-clause-merged
returns-clause-merged c = merged-is-merged c.reports_are.ensures.due
