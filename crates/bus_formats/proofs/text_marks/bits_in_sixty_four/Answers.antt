use Rattle.std.proofs.Common.{replicate, map, eqb, ap, ◌∙◌, arith, w8}
use Rattle.std.specs.Prelude.{bit_and}
use Rattle.std.proofs.lemmas.List.{length-map}
use Rattle.std.proofs.lemmas.Simd.{bitmask_splat}
use lib.Lanes.{mask_l, zip2}
use Rattle.bus_bits.specs.Octet.{bits_of}
use Rattle.bus_bits.specs.Text.{is_bit}
use Rattle.bus_formats.proofs.TextMarksLemmas.{bits-mask, bits-shared, length-shared}
use Rattle.bus_formats.proofs.text_marks.bits_in_sixty_four.Goals as goal

pub returns : goal.returns
returns c =
    let text = c.args.text in
    let shared = zip2 bit_and text (replicate 64 254) in
    let long = length-shared text 64 c.requires.long in
    ap (bits_of 64) (bitmask_splat w8 eqb shared 64 48 long (omega arith)
    ∙ ap mask_l (bits-shared text 64 c.requires.long c.requires.octets))
    ∙ bits-mask (map is_bit text) 64 (length-map text is_bit ∙ c.requires.long)
