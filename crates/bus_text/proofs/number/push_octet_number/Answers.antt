use Rattle.std.proofs.Common.{arith, ◌≡◌, ◌∙◌, ap, ◌+◌, ◌%◌, ◌∷◌, []}
use Rattle.std.proofs.lemmas.Fmt.{decimal_digit}
use Rattle.itoa.proofs.Decimal.{decimal_two}
use Rattle.bus_text.proofs.NumberLemmas.{adds-digits, three_digits}
use Rattle.bus_text.proofs.number.push_octet_number.Goals as goal

pub returns-then-octet-lt10 : goal.returns-then-octet-lt10
returns-then-octet-lt10 g c =
    let octet = c.args.octet in
    let same : octet ≡ octet % 10 = omega (arith, c.if-octet-lt10.true) in
    adds-digits _ _ octet _ c.push.ensures.items
    (decimal_digit octet c.if-octet-lt10.true ∙ ap (λ last. (48 + last) ∷ []) same) (omega arith)

pub returns-then-octet-lt100 : goal.returns-then-octet-lt100
returns-then-octet-lt100 g c =
    adds-digits _ _ c.args.octet _ c.push_octets.ensures
    (decimal_two c.args.octet c.if-octet-lt10.false c.if-octet-lt100.true) (omega arith)

pub returns-else-octet-lt100 : goal.returns-else-octet-lt100
returns-else-octet-lt100 g c =
    adds-digits _ _ c.args.octet _ c.push_octets-else-octet-lt100.ensures
    (three_digits c.args.octet c.if-octet-lt100.false c.ranges.octet.fits) (omega arith)
