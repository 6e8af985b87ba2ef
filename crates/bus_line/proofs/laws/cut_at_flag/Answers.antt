use Rattle.bus_line.proofs.CutLemmas.{cut-at-flag}
use Rattle.bus_line.proofs.laws.cut_at_flag.Goals as goal

pub returns : goal.returns
returns c = cut-at-flag
