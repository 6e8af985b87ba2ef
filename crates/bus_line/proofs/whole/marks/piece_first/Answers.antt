use Rattle.std.proofs.Common.{rules}
use Rattle.bus_line.proofs.whole.marks.piece_first.Goals as goal

pub returns-in-Some : goal.returns-in-Some
returns-in-Some c = search rules
