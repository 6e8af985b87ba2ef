use Rattle.std.proofs.Common.{ℕ, eqb, map, arith, w8, ◌∙◌}
use Rattle.std.proofs.lemmas.List.{length-map}
use Rattle.std.proofs.lemmas.Simd.{bitmask_splat, mask_l-lt}
use Rattle.bus_formats.proofs.arrival_planes.lanes.Goals as goal

pub returns-clause-value : goal.returns-clause-value
returns-clause-value c = bitmask_splat w8 eqb c.args.text 32 c.args.mark c.requires (omega arith)

pub returns-clause-few : goal.returns-clause-few
returns-clause-few c =
    let is : ℕ → _ = λ x. eqb x c.args.mark in
    rw (bitmask_splat w8 eqb c.args.text 32 c.args.mark c.requires (omega arith))
    (rw (length-map c.args.text is ∙ c.requires) at (mask_l-lt (map is c.args.text)))
