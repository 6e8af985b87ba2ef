use Rattle.std.proofs.Common.{◌≡◌, map, take}
use Rattle.bus_calls.specs.Encode.{bit_char}
use Rattle.bus_calls.proofs.encode.bits.text_of.Given as goal

abbrev pub invariant-loop-bit : goal.invariant-loop-bit
invariant-loop-bit l = l.text.items ≡ map bit_char (take l.bit-index l.bits)
