use Rattle.std.proofs.Common.{sym}
use Rattle.bus_formats.proofs.TextBlockLemmas.{bits-stored}
use Rattle.bus_formats.proofs.text_block.close.Goals as goal

pub returns-clause-bits : goal.returns-clause-bits
returns-clause-bits c = sym (bits-stored c.args.block.now c.args.packing c.requires.room c.requires.held)
