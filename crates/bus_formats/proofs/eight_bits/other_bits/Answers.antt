use Rattle.std.proofs.Common.{ℕ, ◌*◌, ◌<◌, map, bit_and, bit_xor, sym, ap, ◌∙◌}
use Rattle.std.proofs.lemmas.List.{length-map}
use Rattle.std.proofs.lemmas.List.Elements.{All-from_get_or}
use Rattle.bus_formats.proofs.EightBitsLemmas.{other, others}
use Rattle.bus_bits.proofs.WordLemmas.{word-eight}
use Rattle.bus_formats.proofs.eight_bits.other_bits.Goals as goal

pub returns : goal.returns
returns c =
    let bs = c.args.octets.now in
    ap (λ (k : ℕ). bit_and (bit_xor c.from_le_bytes.result 3472328296227680304) (72340172838076673 * k)) c.from.ensures
    ∙ others c.args.high bs c.from_le_bytes.result (record {
      long = c.told-octets;
      small = All-from_get_or (λ b. b < 256) bs 0 (λ i inside. c.fits-octets i);
      value = c.from_le_bytes.ensures;
    }) c.ranges.high.fits
    ∙ sym (word-eight (map (other c.args.high) bs) (length-map bs (other c.args.high) ∙ c.told-octets))
