use Rattle.bus_line.proofs.DecidesLemmas.{bit-due}
use Rattle.bus_line.proofs.decoder.LineDecoder.advance.Goals as goal

pub returns-clause-answer : goal.returns-clause-answer
returns-clause-answer g c = rw (← c.self.view_is) (bit-due c.in_ok-event.ensures.advances.decides)
