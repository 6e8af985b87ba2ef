use Rattle.bus_clocks.proofs.PushLemmas.{enters-one}
use Rattle.bus_clocks.proofs.analyser.enter.Goals as goal

pub returns-in-Some : goal.returns-in-Some
returns-in-Some c = rw (c.in-Some.is) (enters-one _ _ _ _ c.add_report.ensures.enters)
