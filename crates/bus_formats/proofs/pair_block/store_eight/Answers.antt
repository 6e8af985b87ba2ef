use Rattle.std.proofs.Common.{◌≡◌, ◌+◌, ◌*◌, ◌/◌, ◌%◌, ◌∷◌, [], length, ap, ◌∙◌, refl, sym, arith, slice_index}
use Rattle.bus_bits.specs.Bits.{bits_from}
use Rattle.bus_bits.proofs.OctetLemmas.{bits_of_octets-append}
use Rattle.bus_formats.proofs.PairBlockLemmas.{bits-stored, four-bits}
use Rattle.bus_formats.proofs.pair_block.store_eight.Goals as goal

pub returns-clause-bits : goal.returns-clause-bits
returns-clause-bits c =
    let low = slice_index c.args.words 0 in
    let high = slice_index c.args.words 1 in
    let from = c.args.from in
    let written : c.copy_from_slice.new.self ≡ low % 256 ∷ low / 256 % 256 ∷ low / 65536 % 256 ∷ low / 16777216 % 256
    ∷ high % 256 ∷ high / 256 % 256 ∷ high / 65536 % 256 ∷ high / 16777216 % 256 ∷ [] =
    rw (c.copy_from_slice.ensures.after, c.to_le_bytes.ensures, c.to_le_bytes-2.ensures) refl in
    let all : 8 * (from + 8) ≡ 8 * from + 64 = omega arith in
    let halves = bits_of_octets-append (low % 256 ∷ low / 256 % 256 ∷ low / 65536 % 256 ∷ low / 16777216 % 256 ∷ [])
    (high % 256 ∷ high / 256 % 256 ∷ high / 65536 % 256 ∷ high / 16777216 % 256 ∷ []) in
    ap (bits_from _ 0) (sym all)
    ∙ (bits-stored c.args.octets.now c.copy_from_slice.new.self from 8 (from + 8) (sym (ap length written)) refl
    c.requires
    ∙ rw (written, halves, four-bits low, four-bits high) refl)
