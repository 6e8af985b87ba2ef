use Rattle.std.proofs.Common.{◌≡◌, ℕ, ◌-◌, ◌∷◌, [], ◌++◌, List, Bool, take, drop, arith, refl, sym, ap, ◌∙◌, subst}
use Rattle.std.proofs.lemmas.List.{length-drop, take_all}
use Rattle.std.specs.List.{list_any}
use Rattle.bus_bits.specs.Octet.{bits_of}
use Rattle.bus_formats.specs.Packed.{PackedAfter}
use Rattle.bus_bits.proofs.OctetLemmas.{length-bits}
use Rattle.bus_formats.proofs.PackedLemmas.{packed-trailing, packed-pad, packed-more}
use Rattle.bus_formats.proofs.packed_bits.PackedBits.step.Goals as goal

pub returns-then-self-eq0-clause-given : goal.returns-then-self-eq0-clause-given
returns-then-self-eq0-clause-given c =
    λ n xs before.
    let none-left : c.args.self.now ≡ 0 = sym c.self.view_is ∙ c.if-self-eq0.true in
    packed-trailing n xs c.args.octet (subst (PackedAfter n xs) none-left before)

-- what the test of the bits past those that are left finds
unused_ones : (left inside o : ℕ) (bits : List Bool) (found : Bool) → inside ≡ left → bits ≡ bits_of 8 o →
    found ≡ list_any (λ b. b) (take (8 - inside) (drop inside bits))
    → list_any (λ b. b) (drop left (bits_of 8 o)) ≡ found
unused_ones left inside o bits found same are is =
    sym (is ∙ rw (same, are)
    (ap (list_any (λ b. b))
    (take_all (8 - left) (drop left (bits_of 8 o)) (omega (arith, length-drop left (bits_of 8 o), length-bits 8 o)))))

pub returns-then-has_one-clause-given : goal.returns-then-has_one-clause-given
returns-then-has_one-clause-given c =
    λ n xs before.
    let left = c.args.self.now in
    let ones = unused_ones left _ c.args.octet _ _ c.self.view_is c.octet_bits-bits.ensures c.has_one.ensures in
    packed-pad n xs c.args.octet left before (omega (arith, c.if-self-eq0.false)) (ones ∙ c.if-has_one.true)

pub returns-clause-given : goal.returns-clause-given
returns-clause-given c =
    λ n xs before.
    let left = c.args.self.now in
    let octet = c.args.octet in
    let ones = unused_ones left _ octet _ _ c.self.view_is c.octet_bits-bits.ensures c.has_one.ensures in
    let taken =
    packed-more n xs octet left before (omega (arith, c.if-self-eq0.false)) (ones ∙ c.if-has_one.false) in
    let none-left : left - 8 ≡ 0 = omega (arith, c.if-self-ge8.false) in
    let given : c.gathered.result.items ≡ take left (bits_of 8 octet) =
    c.gathered.ensures ∙ rw (c.octet_bits-bits.ensures, c.self.view_is) refl in (
      subst (PackedAfter n (xs ++ octet ∷ [])) none-left taken.0,
      taken.1 ∙ rw given refl,
    )

pub returns-then-self-ge8-clause-given : goal.returns-then-self-ge8-clause-given
returns-then-self-ge8-clause-given c =
    λ n xs before.
    let taken = c.consume_octet.ensures.given n xs c.args.octet before in
    (taken.0, taken.1 ∙ rw (c.from.ensures.0, c.octet_bits-bits.ensures) refl)
