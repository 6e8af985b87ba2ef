use Rattle.bus_line.specs.LineReport.{firsts, seconds}
use Rattle.bus_watch.proofs.pair.analyser.PairAnalyser.buffered.Goals as goal

pub returns-in-First-clause-stored : goal.returns-in-First-clause-stored
returns-in-First-clause-stored g c = λ ps reached.
    let inside = rw (← c.self.view_is) at reached in
    rw (c.in-First.is, ← c.self.view_is, ← inside.longest) (c.buffered.ensures.stored (firsts ps) inside.first)

pub returns-in-Second-clause-stored : goal.returns-in-Second-clause-stored
returns-in-Second-clause-stored g c = λ ps reached.
    let inside = rw (← c.self.view_is) at reached in
    rw (c.in-Second.is, ← c.self.view_is, ← inside.longest_second)
    (c.buffered-in-Second.ensures.stored (seconds ps) inside.second)
