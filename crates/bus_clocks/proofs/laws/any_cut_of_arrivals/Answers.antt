use Rattle.std.proofs.Common.{[], sym}
use Rattle.bus_watch.proofs.FedLemmas.{runs-from}
use Rattle.bus_clocks.proofs.laws.any_cut_of_arrivals.Goals as goal

pub returns : goal.returns
returns g c = λ start end pieces shown new runs.
    let all = runs-from start end pieces shown [] new runs in
    (all.0, sym all.1)
