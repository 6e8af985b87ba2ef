use Rattle.std.proofs.Common.{◌∙◌, ap}
use Rattle.bus_line.specs.LineReport.{firsts, seconds}
use Rattle.bus_pairing.specs.Shown.{begun_span}
use Rattle.bus_watch.proofs.pair.analyser.PairAnalyser.ending.Goals as goal

pub returns-clause-first : goal.returns-clause-first
returns-clause-first g c = λ ps reached.
    let inside = rw (← c.self.view_is) at reached in
    rw (← c.self.view_is) (c.begun_span.ensures (firsts ps) inside.first)

pub returns-clause-second : goal.returns-clause-second
returns-clause-second g c = λ ps reached.
    let inside = rw (← c.self.view_is) at reached in
    rw (← c.self.view_is)
    (c.begun_span-2.ensures (seconds ps) inside.second ∙ ap (λ o. begun_span o (seconds ps)) inside.origin)
