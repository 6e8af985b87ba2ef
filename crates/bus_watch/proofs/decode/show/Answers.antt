use Rattle.std.proofs.Common.{◌+◌, arith}
use Rattle.bus_watch.proofs.decode.show.Goals as goal

pub returns-in_default-clause-left : goal.returns-in_default-clause-left
returns-in_default-clause-left g c =
    λ more room. g.met.L.ReportObserver.has_less c.args.observer.now (1 + more) more (omega arith) room
