use Rattle.port1_c.proofs.ReadBackLemmas.{read-back}
use Rattle.port1_c.proofs.laws.idles_are_read_back.Goals as goal

pub returns : goal.returns
returns c = read-back c.line_is_read_back.ensures
