use Rattle.bus_tap.proofs.CountedLemmas.{counted-it}
use Rattle.bus_tap.proofs.laws.counted_levels_stood.Goals as goal

pub returns : goal.returns
returns c = λ hold channel ss. counted-it channel ss hold
