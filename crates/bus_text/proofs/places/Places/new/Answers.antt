use Rattle.std.proofs.Common.{arith, refl, sym, ap, ◌∙◌, ◌++◌, codes}
use Rattle.std.proofs.lemmas.Fmt.{decimal_digit}
use Rattle.itoa.proofs.Decimal.{pair, decimal_four}
use Rattle.bus_text.proofs.places.Places.new.Goals as goal

pub invariant_of-result : goal.invariant_of-result
invariant_of-result c =
    let digits = decimal_four 10000 (omega arith) (omega arith)
    ∙ ap (λ first. first ++ (pair 0 ++ pair 0)) (decimal_digit 1 (omega arith)) in
    let text = c.push_octets.ensures ∙ ap (λ text. text ++ codes "10000 ") c.new-text.ensures
    ∙ sym (ap (λ text. text ++ codes " ") digits) in
    (10000, omega arith, omega arith, refl, text)
