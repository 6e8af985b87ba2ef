use Rattle.std.proofs.Common.{ℕ, List, Bool, replicate, map, eqb, ap, ◌∙◌, arith, w8}
use Rattle.std.specs.Prelude.{bit_and}
use Rattle.std.proofs.lemmas.List.{length-map}
use Rattle.std.proofs.lemmas.Simd.{bitmask_splat, mask_l-lt}
use lib.Lanes.{mask_l, zip2}
use Rattle.bus_bits.specs.Octet.{bits_of}
use Rattle.bus_bits.specs.Text.{is_bit}
use Rattle.bus_formats.proofs.TextMarksLemmas.{bits-mask, bits-shared, length-shared}
use Rattle.bus_formats.proofs.text_marks.bits_in_sixteen.Goals as goal

pub returns-clause-bits : goal.returns-clause-bits
returns-clause-bits c =
    let text = c.args.text in
    let shared = zip2 bit_and text (replicate 16 254) in
    let long = length-shared text 16 c.requires.long in
    ap (bits_of 16) (bitmask_splat w8 eqb shared 16 48 long (omega arith)
    ∙ ap mask_l (bits-shared text 16 c.requires.long c.requires.octets))
    ∙ bits-mask (map is_bit text) 16 (length-map text is_bit ∙ c.requires.long)

pub returns-clause-few : goal.returns-clause-few
returns-clause-few c =
    let text = c.args.text in
    let shared = zip2 bit_and text (replicate 16 254) in
    let long = length-shared text 16 c.requires.long in
    let marks : List Bool = map (λ (x : ℕ). eqb x 48) shared in
    rw (bitmask_splat w8 eqb shared 16 48 long (omega arith))
    (rw (length-map shared (λ (x : ℕ). eqb x 48) ∙ long) at (mask_l-lt marks))
