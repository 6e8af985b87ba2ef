use Rattle.bus_line.specs.declared.line.Line.TheVariants.{First}
use Rattle.bus_tap.specs.Arrival.{own}
use Rattle.port1_c.proofs.clocks.Port1Clocks.open_first.Goals as goal

pub returns : goal.returns
returns c = λ xs reached. c.begun_span.ensures (own First xs) reached.first
