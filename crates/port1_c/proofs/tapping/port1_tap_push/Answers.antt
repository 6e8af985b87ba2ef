use Rattle.std.proofs.Common.{[], refl}
use Rattle.port1_c.proofs.TapLemmas.{tapped-none}
use Rattle.port1_c.proofs.tapping.port1_tap_push.Goals as goal

pub returns-clause-taps : goal.returns-clause-taps
returns-clause-taps c = λ _.
    let held = c.in-Some.held in
    let taken = c.take_run.ensures.taken held c.args.tap.now.stops c.args.arrivals.now [] refl
    (tapped-none held c.args.tap.now.stops c.args.arrivals.now) in
    rw (← c.in-Some.ensures.value, c.words-tap.ensures.value)
    (rw (c.channels-levels.ensures, c.wires.ensures) at taken)
