use Rattle.bus_sample.proofs.ReadBackLemmas.{read-back}
use Rattle.bus_sample.proofs.laws.text_is_read_back.Goals as goal

pub returns : goal.returns
returns c = read-back
