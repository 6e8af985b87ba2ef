use Rattle.std.proofs.Common.{rules}
use Rattle.bus_pairing.proofs.line.carries_answers.Goals as goal

pub returns : goal.returns
returns c = search rules
