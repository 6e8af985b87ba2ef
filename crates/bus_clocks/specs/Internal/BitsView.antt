-- The packed bits of a line, as they are seen, and what always holds of them.
use Rattle.std.specs.Prelude.{◌≡◌, ◌≤◌, Bool, List, length}
use Rattle.bus_bits.specs.Bits.{bits_from}
use Rattle.bus_clocks.specs.declared.line_bits.LineBits.TheInside.{Inside}

abbrev pub line_bits : Inside → List Bool
line_bits b = bits_from b.octets 0 b.count

-- there is room for 512 bits
pub record ArePacked (b : Inside) : Type 0 where
  pub long : length b.octets ≡ 72
  pub few : b.count ≤ 512
