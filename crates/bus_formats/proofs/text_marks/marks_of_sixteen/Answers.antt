use Rattle.std.proofs.Common.{ℕ, List, Bool, eqb, map, ap, ◌∙◌, arith, w8}
use Rattle.std.proofs.lemmas.List.{length-map}
use Rattle.std.proofs.lemmas.Simd.{bitmask_splat, mask_l-lt}
use Rattle.bus_bits.specs.Octet.{bits_of}
use Rattle.bus_formats.proofs.TextMarksLemmas.{bits-mask, all-octets}
use Rattle.bus_formats.proofs.text_marks.marks_of_sixteen.Goals as goal

pub bits_in_sixteen-requires : goal.bits_in_sixteen-requires
bits_in_sixteen-requires c = record { long = c.told-octets; octets = all-octets c.args.octets.now c.fits-octets }

pub returns-clause-ones : goal.returns-clause-ones
returns-clause-ones c =
    let os = c.args.octets.now in
    ap (bits_of 16) (bitmask_splat w8 eqb os 16 49 c.told-octets (omega arith))
    ∙ bits-mask (map (λ (x : ℕ). eqb x 49) os) 16 (length-map os (λ (x : ℕ). eqb x 49) ∙ c.told-octets)

pub returns-clause-few : goal.returns-clause-few
returns-clause-few c =
    let os = c.args.octets.now in
    let marks : List Bool = map (λ (x : ℕ). eqb x 49) os in (
      rw (bitmask_splat w8 eqb os 16 49 c.told-octets (omega arith))
          (rw (length-map os (λ (x : ℕ). eqb x 49) ∙ c.told-octets) at (mask_l-lt marks)),
      c.bits_in_sixteen.ensures.few,
    )
