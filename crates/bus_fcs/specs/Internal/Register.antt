-- The remainder as a reflected register of sixteen bits.
use Rattle.std.specs.Prelude.{◌≡◌, ℕ, zero, suc, ◌/◌, ◌%◌, ◌==◌, true, false, cond, List, ◌++◌, Bool, replicate}
use Rattle.std.specs.Prelude.{bit_xor}
use Rattle.bus_bits.specs.Octet.{bits_of_octets, number}
use Rattle.bus_fcs.specs.Division.{add, remainder}

-- one step of the register: 0x8408 is the divisor, reflected, without its highest power
unfoldable pub crc_step_of : ℕ → ℕ
crc_step_of s = cond (s % 2 == 1) (bit_xor (s / 2) 0x8408) (s / 2)

-- `n` steps
unfoldable pub crc_steps : ℕ → ℕ → ℕ
crc_steps zero s = s
crc_steps (suc n) s = crc_steps n (crc_step_of s)

-- the remainder of the bits `d` followed by sixteen zeros, the first sixteen of all of these inverted
unfoldable pub register : List Bool → List Bool
register d = remainder (add (replicate 16 true) (d ++ replicate 16 false))

-- the state of a register after these octets
unfoldable pub IsStateAfter : ℕ → List ℕ → Type 0
IsStateAfter state octets = state ≡ number (register (bits_of_octets octets))
