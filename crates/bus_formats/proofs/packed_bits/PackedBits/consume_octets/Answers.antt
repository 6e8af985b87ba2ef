use Rattle.std.proofs.Common.{◌≡◌, ◌-◌, ◌*◌, ◌++◌, length, arith, refl, ◌∙◌, subst}
use Rattle.bus_formats.specs.Packed.{PackedAfter}
use Rattle.bus_formats.proofs.PackedLemmas.{wholes-taken}
use Rattle.bus_bits.proofs.WordLemmas.{bits-whole}
use Rattle.bus_formats.proofs.packed_bits.PackedBits.consume_octets.Goals as goal

pub returns : goal.returns
returns c = record {
  given = λ n xs before.
      let os = c.args.octets.now in
      let all = wholes-taken n xs os c.args.self.now before c.requires in
      let left : c.args.self.now - 8 * length os ≡ c.self.inside.left - 8 * length os =
      omega (arith, c.self.view_is) in (
        subst (PackedAfter n (xs ++ os)) left all.0,
        all.1 ∙ rw (bits-whole os) refl,
      );
}
