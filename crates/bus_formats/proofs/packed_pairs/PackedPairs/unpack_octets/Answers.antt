use Rattle.std.proofs.Common.{◌≡◌, ◌-◌, ◌*◌, ◌++◌, length, arith, refl, ◌∙◌, subst}
use Rattle.bus_formats.specs.Packed.{PairsAfter}
use Rattle.bus_formats.proofs.PairsLemmas.{pairs-taken}
use Rattle.bus_formats.proofs.packed_pairs.PackedPairs.unpack_octets.Goals as goal

pub returns-clause-given : goal.returns-clause-given
returns-clause-given c = λ n xs before.
    let os = c.args.octets.now in
    let all = pairs-taken n xs os c.args.self.now before c.requires.wanted in
    let left : c.args.self.now - 4 * length os ≡ c.self.inside.left - 4 * length os = omega (arith, c.self.view_is) in (
      subst (PairsAfter n (xs ++ os)) left all.0,
      all.1 ∙ rw c.part.ensures.pairs refl,
    )
