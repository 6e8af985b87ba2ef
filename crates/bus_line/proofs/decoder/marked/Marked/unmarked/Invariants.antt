use Rattle.bus_line.proofs.SettledKeptLemmas.{AreRaised}
use Rattle.bus_line.proofs.decoder.marked.Marked.unmarked.Given as goal

abbrev pub invariant-loop-marks : goal.invariant-loop-marks
invariant-loop-marks l = AreRaised l.fn.self.bits l.fn.self.marks l.fn.self.count l.bits l.marks l.out

abbrev pub decreases-loop-marks : goal.decreases-loop-marks
decreases-loop-marks l = l.marks
