use Rattle.std.proofs.Common.{◌≡◌, take}
use Rattle.bus_bits.specs.Octet.{number}
use Rattle.bus_bits.proofs.octet.bits_number.Given as goal

-- the number of the bits so far
abbrev pub invariant-loop-bit : goal.invariant-loop-bit
invariant-loop-bit l = record { value : l.number ≡ number (take l.bit-index l.bits); place : l.place ≡ l.bit-index }
