use Rattle.std.proofs.Common.{ℕ, eqb, map, ap, ◌∙◌, arith, w8}
use Rattle.std.proofs.lemmas.List.{length-map}
use Rattle.std.proofs.lemmas.Simd.{bitmask_splat}
use Rattle.bus_bits.specs.Octet.{bits_of}
use Rattle.bus_formats.proofs.TextMarksLemmas.{bits-mask, all-octets}
use Rattle.bus_formats.proofs.text_marks.marks_of_sixty_four.Goals as goal

pub bits_in_sixty_four-requires : goal.bits_in_sixty_four-requires
bits_in_sixty_four-requires c = record { long = c.told-octets; octets = all-octets c.args.octets.now c.fits-octets }

pub returns-clause-ones : goal.returns-clause-ones
returns-clause-ones c =
    let os = c.args.octets.now in
    ap (bits_of 64) (bitmask_splat w8 eqb os 64 49 c.told-octets (omega arith))
    ∙ bits-mask (map (λ (x : ℕ). eqb x 49) os) 64 (length-map os (λ (x : ℕ). eqb x 49) ∙ c.told-octets)
