use Rattle.port1_c.proofs.TapLemmas.{PutsFront}
use Rattle.port1_c.proofs.arrival.put_edges.Given as goal

-- the bits so far are put
abbrev pub invariant-loop-left : goal.invariant-loop-left
invariant-loop-left l =
    PutsFront l.from l.edges l.left l.initial.stops l.initial.arrivals l.initial.count l.stops l.arrivals l.count

abbrev pub decreases-loop-left : goal.decreases-loop-left
decreases-loop-left l = l.left
