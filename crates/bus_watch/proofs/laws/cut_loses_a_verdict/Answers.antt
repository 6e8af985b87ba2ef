use Rattle.bus_watch.proofs.CutLemmas.{loses-nothing, loses-verdict, flag-loses-nothing}
use Rattle.bus_watch.proofs.laws.cut_loses_a_verdict.Goals as goal

pub returns-clause-nothing : goal.returns-clause-nothing
returns-clause-nothing c = loses-nothing

pub returns-clause-verdict : goal.returns-clause-verdict
returns-clause-verdict c = loses-verdict

pub returns-clause-flag : goal.returns-clause-flag
returns-clause-flag c = flag-loses-nothing c.cut_at_flag.ensures
