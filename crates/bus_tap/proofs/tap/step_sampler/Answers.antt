use Rattle.std.proofs.Common.{◌≡◌, ◌-◌, ◌∷◌, [], ◌++◌, length, arith}
use Rattle.bus_line.specs.declared.line.Line.TheVariants.{First, Second}
use Rattle.bus_tap.proofs.EachLemmas.{length-more}
use Rattle.bus_tap.proofs.TapLemmas.{levels-now, levels-before}
use Rattle.bus_tap.proofs.tap.step_sampler.Goals as goal

pub returns-in-Some-clause-levels : goal.returns-in-Some-clause-levels
returns-in-Some-clause-levels c = λ ss has.
    let s = c.args.sample in
    let old = c.in-Some.sampler in
    let new = c.sample-edges.new.self in
    let was = rw (c.in-Some.is) at has in
    let now = c.sample-edges.ensures.after ss was.1 in
    let last : length ss ≡ length (ss ++ s ∷ []) - 1 = omega (arith, length-more ss s) in
    let one = c.levels-first_before.ensures in
    let two = c.levels-in-Some.ensures in
    let three = c.levels-second_before.ensures in
    let four = c.levels-in-Some-2.ensures in
    rw (← was.0) (
      levels-before old First ss s _ was.1 one.clock one.bits,
      rw (← c.sample-edges.ensures.hold) (levels-now new First (ss ++ s ∷ []) _ _ last now two.clock two.bits),
      levels-before old Second ss s _ was.1 three.clock three.bits,
      rw (← c.sample-edges.ensures.hold) (levels-now new Second (ss ++ s ∷ []) _ _ last now four.clock four.bits),
    )
