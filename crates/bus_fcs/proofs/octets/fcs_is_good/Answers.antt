use Rattle.std.proofs.Common.{◌≡◌, List, ℕ, take, subst, arith}
use Rattle.std.proofs.lemmas.List.{take_all}
use Rattle.bus_bits.specs.Octet.{bits_of_octets}
use Rattle.bus_fcs.proofs.FrameCheckLemmas.{same_test}
use Rattle.bus_fcs.proofs.octets.fcs_is_good.Goals as goal

pub returns : goal.returns
returns g c =
    let os = c.args.octets.now in
    let whole : take c.loop-octet.octet-index os ≡ os =
    take_all c.loop-octet.octet-index os (omega (arith, c.loop-octet-test.false)) in
    let folded = subst (λ (xs : List ℕ). g.C.Check.check.folded c.loop-octet.check xs) whole c.loop-octet.invariant in
    same_test c.is_good.result (bits_of_octets os) (c.is_good.ensures os folded c.requires)
