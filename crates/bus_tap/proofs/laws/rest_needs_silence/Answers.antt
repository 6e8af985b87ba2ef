use Rattle.bus_tap.proofs.RestLawLemmas.{rest-needs}
use Rattle.bus_tap.proofs.laws.rest_needs_silence.Goals as goal

pub returns : goal.returns
returns c = rest-needs
