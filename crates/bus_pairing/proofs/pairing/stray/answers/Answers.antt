use Rattle.std.proofs.Common.{rules}
use Rattle.bus_pairing.proofs.pairing.stray.answers.Goals as goal

pub returns-in_default : goal.returns-in_default
returns-in_default c = search rules
