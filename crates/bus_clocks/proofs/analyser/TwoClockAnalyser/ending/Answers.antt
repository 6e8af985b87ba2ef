use Rattle.bus_line.specs.declared.line.Line.TheVariants.{First}
use Rattle.bus_tap.specs.Arrival.{own}
use Rattle.bus_clocks.proofs.analyser.TwoClockAnalyser.ending.Goals as goal

pub returns-clause-first : goal.returns-clause-first
returns-clause-first g c = λ xs reached.
    let inside = rw (← c.self.view_is) at reached in
    rw (← c.self.view_is) (c.begun_span.ensures (own First xs) inside.first)
