use Rattle.std.proofs.Common.{◌≡◌, ◌++◌, ◌∷◌, [], Bool, List, Err, Ok, ℕ, refl, take, ap, ◌∙◌, arith}
use Rattle.std.proofs.lemmas.Result.{err_from_is_err_and}
use Rattle.bus_bits.specs.Bits.{bits_from}
use Rattle.bus_bits.specs.Octet.{bits_of}
use Rattle.bus_bits.proofs.BitLemmas.{bits-in}
use Rattle.bus_calls.proofs.SessionsTextLemmas.{mark-taken}
use Rattle.bus_calls.proofs.one_line.analyse_eight.Goals as goal

-- the bits of an octet behind others are those of a list of it
in-list : (b : List Bool) (octet : ℕ) → b ++ bits_of 8 octet ≡ b ++ bits_from (octet ∷ []) 0 8
in-list b octet = ap (λ (z : List Bool). b ++ z)
    (ap (bits_of 8) (omega arith) ∙ bits-in (octet ∷ []) 0 0 0 8 (omega arith) (omega arith))

pub returns-in_err-analyse_bits-clause-taken : goal.returns-in_err-analyse_bits-clause-taken
returns-in_err-analyse_bits-clause-taken g c =
    let failed = err_from_is_err_and c.from_residual.result c.from_residual.ensures.1 in
    rw (failed.1, failed.2) (λ start xs followed.
    let eight = c.in-Some.eight in
    let given = c.in-Some.ensures.given eight refl xs followed.clean in
    let fewest = c.in-Some.ensures.fewest eight refl in (
      eight.taken,
      fewest.0.0,
      mark-taken c.laws.ensures _ (xs ++ take eight.taken c.args.text.now) (Err c.in_err-analyse_bits.field-0.0)
          c.requires.places c.analyse_bits.ensures.same followed.bits.bits (given.0, given.1 ∙ in-list _ eight.octet)
          (c.in_err-analyse_bits.ensures.taken start _ followed.bits),
    ))

pub returns-clause-taken : goal.returns-clause-taken
returns-clause-taken g c = λ start xs followed.
    let eight = c.in-Some.eight in
    let given = c.in-Some.ensures.given eight refl xs followed.clean in
    mark-taken c.laws.ensures _ (xs ++ take eight.taken c.args.text.now) (Ok tt) c.requires.places
    c.analyse_bits.ensures.same followed.bits.bits (given.0, given.1 ∙ in-list _ eight.octet)
    (c.in_ok-analyse_bits.ensures.taken start _ followed.bits)

pub returns-clause-enough : goal.returns-clause-enough
returns-clause-enough g c = let fewest = c.in-Some.ensures.fewest c.in-Some.eight refl in fewest.0.0
