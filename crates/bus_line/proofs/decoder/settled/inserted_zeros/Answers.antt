use Rattle.bus_line.proofs.SettledDataLemmas.{inserted-at}
use Rattle.bus_line.proofs.decoder.settled.inserted_zeros.Goals as goal

pub returns : goal.returns
returns c = λ k l. inserted-at c.args.word k c.ranges.word.fits l
