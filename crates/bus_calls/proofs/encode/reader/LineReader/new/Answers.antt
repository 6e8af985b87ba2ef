use Rattle.bus_calls.proofs.EncodeStateLemmas.{none_takes}
use Rattle.bus_calls.proofs.encode.reader.LineReader.new.Goals as goal

pub returns-clause-fresh : goal.returns-clause-fresh
returns-clause-fresh c = λ start. none_takes start _ _ _ c.first.ensures.0 c.first.ensures.1 c.new.ensures
