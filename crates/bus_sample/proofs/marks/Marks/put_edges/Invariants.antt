use Rattle.bus_sample.proofs.MarksLemmas.{HasPut}
use Rattle.bus_sample.proofs.marks.Marks.put_edges.Given as goal

-- the bits so far are put
abbrev pub invariant-loop-left : goal.invariant-loop-left
invariant-loop-left l = HasPut l.from l.edges l.initial.self l.self l.left

abbrev pub decreases-loop-left : goal.decreases-loop-left
decreases-loop-left l = l.left
