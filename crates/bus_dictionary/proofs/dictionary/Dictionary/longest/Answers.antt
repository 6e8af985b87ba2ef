use Rattle.std.proofs.Common.{rules}
use Rattle.bus_dictionary.proofs.dictionary.Dictionary.longest.Goals as goal

pub returns-clause-value : goal.returns-clause-value
returns-clause-value c = search rules
