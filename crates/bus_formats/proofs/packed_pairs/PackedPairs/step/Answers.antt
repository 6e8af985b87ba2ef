use Rattle.std.proofs.Common.{◌≡◌, ◌-◌, ◌*◌, ◌∷◌, [], ◌++◌, take, arith, refl, sym, ap, ◌∙◌, subst}
use Rattle.bus_bits.specs.Octet.{bits_of}
use Rattle.bus_formats.specs.Packed.{PairsAfter, in_pairs}
use Rattle.bus_formats.proofs.PairsLemmas.{pairs-trailing, pairs-pad, pairs-more, unused_ones, used_pairs}
use Rattle.bus_formats.proofs.packed_pairs.PackedPairs.step.Goals as goal

pub returns-then-self-eq0-clause-given : goal.returns-then-self-eq0-clause-given
returns-then-self-eq0-clause-given c =
    λ n xs before.
    let none-left : c.args.self.now ≡ 0 = sym c.self.view_is ∙ c.if-self-eq0.true in
    pairs-trailing n xs c.args.octet (subst (PairsAfter n xs) none-left before)

pub returns-then-has_one-clause-given : goal.returns-then-has_one-clause-given
returns-then-has_one-clause-given c =
    λ n xs before.
    let left = c.self.inside.left in
    let ones = unused_ones left c.min-used.result c.args.octet c.octet_bits.result c.min-used.ensures
    c.octet_bits.ensures in
    pairs-pad n xs c.args.octet left (subst (PairsAfter n xs) (sym c.self.view_is) before)
    (omega (arith, c.if-self-eq0.false)) (sym ones ∙ sym c.has_one.ensures ∙ c.if-has_one.true)

pub returns-clause-given : goal.returns-clause-given
returns-clause-given c =
    λ n xs before.
    let left = c.self.inside.left in
    let octet = c.args.octet in
    let ones = unused_ones left c.min-used.result octet c.octet_bits.result c.min-used.ensures c.octet_bits.ensures in
    let taken = pairs-more n xs octet left (subst (PairsAfter n xs) (sym c.self.view_is) before)
    (omega (arith, c.if-self-eq0.false)) (sym ones ∙ sym c.has_one.ensures ∙ c.if-has_one.false) in
    let still-left : left - 4 ≡ left - c.min-used.result = omega (arith, c.min-used.ensures) in
    let given : c.gathered.result.items ≡ in_pairs (take (2 * left) (bits_of 8 octet)) =
    c.gathered.ensures ∙ ap (take c.min-used.result) c.octet_pairs.ensures
    ∙ used_pairs left c.min-used.result octet c.min-used.ensures in (
      subst (PairsAfter n (xs ++ octet ∷ [])) still-left taken.0,
      taken.1 ∙ rw given refl,
    )
