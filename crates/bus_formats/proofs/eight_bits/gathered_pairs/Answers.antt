use Rattle.std.proofs.Common.{◌<◌}
use Rattle.std.proofs.lemmas.List.Elements.{All-from_get_or}
use Rattle.bus_formats.proofs.EightBitsLemmas.{gathered-pairs}
use Rattle.bus_formats.proofs.eight_bits.gathered_pairs.Goals as goal

pub returns : goal.returns
returns c =
    let bs = c.args.octets.now in
    rw (c.packed-2.ensures, c.packed.ensures)
    (gathered-pairs bs c.from_le_bytes-marks.result (record {
      long = c.told-octets;
      small = All-from_get_or (λ b. b < 256) bs 0 (λ i inside. c.fits-octets i);
      value = c.from_le_bytes-marks.ensures;
    }) c.requires)
