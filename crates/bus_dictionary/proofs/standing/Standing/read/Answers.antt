use Rattle.std.proofs.Common.{rules}
use Rattle.bus_dictionary.proofs.standing.Standing.read.Goals as goal

pub returns-in-None-clause-value : goal.returns-in-None-clause-value
returns-in-None-clause-value g c = search rules
