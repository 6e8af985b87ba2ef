use Rattle.std.proofs.Common.{take}
use Rattle.bus_examples.specs.Pairing.{Takes}
use Rattle.bus_examples.proofs.pairing.pair_reports.Given as goal

abbrev pub invariant-loop-taken : goal.invariant-loop-taken
invariant-loop-taken l = Takes l.fn.conversation (take l.taken l.reports) l.conversation
