use Rattle.std.proofs.Common.{◌≡◌, Some, ◌∙◌}
use Rattle.bus_pairing.specs.History.{kept_pair}
use Rattle.bus_calls.proofs.arrivals.ClockAnalyserCaptureKind.put_last.Goals as goal

pub returns-in-Some-clause-put : goal.returns-in-Some-clause-put
returns-in-Some-clause-put g c = λ start text b k after is before.
    let both : Some (kept_pair c.in-Some.kept.now) ≡ Some k = c.in-Some.ensures.value b after ∙ is in
    let same : kept_pair c.in-Some.kept.now ≡ k = cc in
    rw (← same) (c.put_kept.ensures.put start text before)
