use Rattle.bus_tap.proofs.RestLawLemmas.{silence-brings}
use Rattle.bus_tap.proofs.laws.silence_brings_rest.Goals as goal

pub returns : goal.returns
returns c = silence-brings
