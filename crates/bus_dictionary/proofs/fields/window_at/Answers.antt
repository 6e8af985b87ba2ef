use Rattle.std.proofs.Common.{rules}
use Rattle.bus_dictionary.proofs.fields.window_at.Goals as goal

pub returns-in-Some-as_integer : goal.returns-in-Some-as_integer
returns-in-Some-as_integer c = search rules
