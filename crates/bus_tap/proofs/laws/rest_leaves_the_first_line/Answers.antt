use Rattle.bus_tap.proofs.RestLemmas.{rest-first}
use Rattle.bus_tap.proofs.laws.rest_leaves_the_first_line.Goals as goal

pub returns : goal.returns
returns c = rest-first
