use Rattle.std.proofs.Common.{◌<◌, ap, ◌∙◌}
use Rattle.std.proofs.lemmas.List.Elements.{All-from_get_or}
use Rattle.bus_bits.specs.Octet.{bits_of}
use Rattle.bus_formats.proofs.EightBitsLemmas.{gathered-bits}
use Rattle.bus_formats.proofs.eight_bits.gathered.Goals as goal

pub returns : goal.returns
returns c =
    let bs = c.args.octets.now in
    ap (bits_of 8) c.packed.ensures
    ∙ gathered-bits bs c.from_le_bytes.result (record {
      long = c.told-octets;
      small = All-from_get_or (λ b. b < 256) bs 0 (λ i inside. c.fits-octets i);
      value = c.from_le_bytes.ensures;
    }) c.requires
