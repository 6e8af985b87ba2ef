use Rattle.bus_tap.proofs.RestLawLemmas.{rest-stays}
use Rattle.bus_tap.proofs.laws.rest_stays.Goals as goal

pub returns : goal.returns
returns c = rest-stays
