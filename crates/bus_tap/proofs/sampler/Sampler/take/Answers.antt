use Rattle.bus_line.specs.declared.line.Line.TheVariants.{First, Second}
use Rattle.bus_tap.specs.Sampled.{clock_of, data_of}
use Rattle.bus_tap.proofs.sampler.Sampler.take.Goals as goal

pub returns-clause-taken : goal.returns-clause-taken
returns-clause-taken c = λ ss more is reached.
    let old = rw (← c.self.view_is) at reached in
    let one = c.take.ensures.taken (clock_of First) (data_of First) ss more is.count is.first_clock is.first_bits
    old.first_clock old.first_bits in
    let two = c.take-2.ensures.taken (clock_of Second) (data_of Second) ss more is.count is.second_clock is.second_bits
    old.second_clock old.second_bits in
    rw (← c.self.view_is) (
      record { first_clock = one.0; first_bits = one.1; second_clock = two.0; second_bits = two.1 },
      (one.2, two.2),
    )
