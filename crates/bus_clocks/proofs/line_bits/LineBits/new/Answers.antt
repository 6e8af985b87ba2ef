use Rattle.std.proofs.Common.{refl}
use Rattle.bus_bits.specs.Bits.{bits_from}
use Rattle.bus_clocks.proofs.line_bits.LineBits.new.Goals as goal

pub returns : goal.returns
unfolding bits_from
returns c = refl
