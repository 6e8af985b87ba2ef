use Rattle.std.proofs.Common.{refl, ◌∙◌}
use Rattle.bus_text.proofs.HexLemmas.{digits_below, in_turn, woven}
use Rattle.bus_text.proofs.hex_digits.digits_of.Goals as goal

pub characters_of-requires : goal.characters_of-requires
characters_of-requires c = record {
  lanes = refl;
  digits = digits_below 16 c.args.octets.now c.told-octets c.fits-octets in_turn;
}

pub returns : goal.returns
returns c = c.characters_of.ensures ∙ woven c.args.octets.now c.told-octets
