use Rattle.bus_line.proofs.DecidesLemmas.{bit-due}
use Rattle.port1_c.proofs.line.Port1Line.decode.Goals as goal

pub returns-clause-decides : goal.returns-clause-decides
returns-clause-decides c =
    let advances = rw (c.with_register-check.ensures) at c.in_ok-event.ensures.advances in
    rw (c.register-self.ensures) (record { advances = advances; answer = bit-due advances.decides })
