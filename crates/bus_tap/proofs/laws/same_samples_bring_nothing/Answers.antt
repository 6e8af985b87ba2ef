use Rattle.bus_tap.proofs.SameSampleLemmas.{same-samples}
use Rattle.bus_tap.proofs.laws.same_samples_bring_nothing.Goals as goal

pub returns : goal.returns
returns c = same-samples
