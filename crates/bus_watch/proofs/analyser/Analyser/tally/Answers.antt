use Rattle.std.proofs.Common.{rules}
use Rattle.bus_watch.proofs.analyser.Analyser.tally.Goals as goal

pub returns : goal.returns
returns g c = search rules
