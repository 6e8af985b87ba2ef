use Rattle.std.proofs.Common.{arith, ◌∙◌, ap, ◌/◌, ◌%◌, ◌++◌, ◌∷◌, [], List, ℕ, decimal, get_or}
use Rattle.itoa.proofs.Decimal.{pair}
use Rattle.bus_text.specs.declared.places.TheConstants.{PAIRS}
use Rattle.bus_text.proofs.NumberLemmas.{pair_at, front_and_four}
use Rattle.bus_text.proofs.places.last_four.Goals as goal

-- the digits of two pairs
abbrev both : List ℕ → List ℕ → List ℕ
both high low = get_or high 0 0 ∷ get_or high 1 0 ∷ get_or low 0 0 ∷ get_or low 1 0 ∷ []

pub returns : goal.returns
returns c front some fits =
    let n = c.args.n in
    ap (λ high. decimal front ++ both high (get_or PAIRS (n % 100) [])) (pair_at (n / 100) (omega (arith, c.requires)))
    ∙ ap (λ low. decimal front ++ both (pair (n / 100)) low) (pair_at (n % 100) (omega arith))
    ∙ front_and_four front n some c.requires fits
