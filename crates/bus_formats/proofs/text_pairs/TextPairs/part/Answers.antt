use Rattle.std.proofs.Common.{◌-◌, ◌*◌, ℕ, List, length, take, drop, zip, refl, sym, ◌∙◌, subst, inl, inr, arith}
use Rattle.std.proofs.lemmas.Bool.{false≢true}
use Rattle.std.proofs.lemmas.List.{length-take, length-drop, length-set, take_rest}
use Rattle.bus_bits.specs.Octet.{bits_of}
use Rattle.bus_bits.specs.Bits.{bits_from}
use Rattle.bus_formats.specs.Capture.{EightPairsIn, text_pairs, text_pairs_fault}
use Rattle.bus_formats.proofs.GatherLemmas.{none-given, more-given}
use Rattle.bus_formats.proofs.PairBlockLemmas.{pairs-stored}
use Rattle.bus_formats.proofs.text_pairs.TextPairs.part.Goals as goal

pub loop-filled-init : goal.loop-filled-init
unfolding bits_from
loop-filled-init c = record {
  enough = omega arith;
  within = omega arith;
  given = λ xs clean. none-given text_pairs text_pairs_fault xs c.args.text.now _ refl clean;
  first = refl;
  second = refl;
}

pub loop-filled-preserved : goal.loop-filled-preserved
loop-filled-preserved c =
    let os = c.args.text.now in
    let i = c.loop-filled.taken in
    let at = c.loop-filled.filled in
    let first = c.loop-filled.first in
    let second = c.loop-filled.second in
    let eight = c.in-Some.eight in
    let fewest = c.in-Some.ensures.fewest eight refl in
    let before = c.loop-filled.invariant in
    record {
      enough = omega (arith, fewest.0.0, before.enough, length-take (length os - i) (drop i os), length-drop i os);
      within = omega (arith, length-set first at eight.first, c.loop-filled-test.true);
      given = λ xs clean. more-given text_pairs text_pairs_fault xs os i eight.taken
          (zip (bits_from first 0 (8 * at)) (bits_from second 0 (8 * at)))
          (zip (bits_of 8 eight.first) (bits_of 8 eight.second)) _
          (pairs-stored first second at eight.first eight.second c.loop-filled-test.true
          (omega (arith, c.loop-filled-test.true, before.first, before.second, c.requires.same)))
          (before.given xs clean) (c.in-Some.ensures.given eight refl);
      first = length-set first at eight.first ∙ before.first;
      second = length-set second at eight.second ∙ before.second;
    }

pub returns-in_default-clause-most : goal.returns-in_default-clause-most
returns-in_default-clause-most c = λ room n which there.
    let os = c.args.text.now in
    let i = c.loop-filled.taken in
    let part : List ℕ = take (length os - i) (drop i os) in
    let here = subst (λ (xs : List ℕ). EightPairsIn n xs) (sym (take_rest os i)) there in
    false≢true (c.in_default.ensures.some.1 (elim which [
      | inl is ↦ inl (subst (λ (k : ℕ). EightPairsIn k part) is here)
      | inr is ↦ inr (subst (λ (k : ℕ). EightPairsIn k part) is here)
    ]))
