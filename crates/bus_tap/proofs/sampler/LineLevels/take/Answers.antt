use Rattle.bus_tap.proofs.sampler.LineLevels.take.Goals as goal

pub returns-clause-taken : goal.returns-clause-taken
returns-clause-taken c = λ clock bits ss more long clocks levels before data_before.
    let one = c.take-clock.ensures.taken clock ss more long clocks before in
    let two = c.take-bits.ensures.taken bits ss more long levels data_before in (
      one.0,
      two.0,
      record { clock_before = one.1; bits_before = two.1; clock_after = one.2; bits_after = two.2 },
    )
