use Rattle.std.proofs.Common.{rules}
use Rattle.bus_pairing.proofs.pairing.decide.answer.Goals as goal

pub returns-in-Some-window : goal.returns-in-Some-window
returns-in-Some-window g c = search rules
