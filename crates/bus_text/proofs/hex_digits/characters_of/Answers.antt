use Rattle.bus_text.proofs.HexLemmas.{letters}
use Rattle.bus_text.proofs.hex_digits.characters_of.Goals as goal

pub returns : goal.returns
returns c = letters 32 c.args.digits c.requires.digits c.requires.lanes
