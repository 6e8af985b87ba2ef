use Rattle.std.proofs.Common.{length, sym, ap, ◌∙◌}
use Rattle.bus_bits.proofs.BitLemmas.{length-from}
use Rattle.bus_clocks.proofs.line_bits.LineBits.count.Goals as goal

pub returns-clause-value : goal.returns-clause-value
returns-clause-value c = sym (length-from c.self.inside.octets 0 c.self.inside.count) ∙ ap length c.self.view_is
