use Rattle.std.proofs.Common.{◌≡◌, ◌-◌, ◌∷◌, [], ◌++◌, arith, subst}
use Rattle.bus_formats.specs.Packed.{PackedAfter}
use Rattle.bus_formats.proofs.PackedLemmas.{whole-taken}
use Rattle.bus_formats.proofs.packed_bits.PackedBits.consume_octet.Goals as goal

pub returns : goal.returns
returns c = record {
  given = λ n xs o before.
      let all = whole-taken n xs o c.args.self.now before c.requires in
      let left : c.args.self.now - 8 ≡ c.self.inside.left - 8 = omega (arith, c.self.view_is) in
      (subst (PackedAfter n (xs ++ o ∷ [])) left all.0, all.1);
}
