use Rattle.std.proofs.Common.{◌≡◌, ◌==◌, ℕ, Bool, true, false, ap}
use mir.Val.{bool_byte}
use Rattle.port1_c.proofs.rest.port1_rest_push.Goals as goal

is-one : (b : Bool) (n : ℕ) → n ≡ bool_byte b → (n == 1) ≡ b
is-one true n e = ap (λ k. k == 1) e
is-one false n e = ap (λ k. k == 1) e

pub returns-clause-rested : goal.returns-clause-rested
returns-clause-rested c = λ ok xs after.
    let rule = c.in-Some-resume.ensures.value in
    let pushed = c.push.ensures.rested xs (rw (rule) after) in
    rw (is-one c.push.result c.from.result c.from.ensures)
    (rw (c.in-Some.ensures.value, rule) at pushed)
