-- Captures of one line.
use Rattle.std.proofs.Common.{◌≡◌, ℕ, ◌*◌, ◌/◌, Bool, true, false, nat_lt, if◌then◌else◌, List, [], ◌∷◌, take, Some}
use Rattle.std.proofs.Common.{None, refl, sym, ap, ◌∙◌, arith}
use Rattle.std.specs.Int.{next_multiple_of}
use Rattle.std.specs.List.{list_any}
use Rattle.std.proofs.lemmas.Grind.{common_steps}
use mir.Val.{bool_byte}
use Rattle.bus_bits.specs.Bits.{bits_from}
use Rattle.bus_bits.specs.Octet.{bits_of, bits_of_octets}
use Rattle.bus_bits.proofs.BitLemmas.{bits-in}
use Rattle.bus_bits.proofs.OctetLemmas.{one_bit}
use Rattle.bus_formats.specs.Capture.{Capture, pad_bits, trailing}
use Rattle.bus_formats.specs.Packed.{packed_capture, packed_whole, packed_body, wanted, unused, head_fault}
use Rattle.bus_calls.proofs.HeadedLemmas.{whole-bits}

-- a bit alone, in an octet
pub bit-alone : (x : ℕ) (bit : Bool) → x ≡ bool_byte bit → bits_from (x ∷ []) 0 1 ≡ bit ∷ []
bit-alone x bit is =
    sym (bits-in (x ∷ []) 0 0 0 1 (omega arith) (omega arith))
    ∙ (ap (bits_of 1) (omega arith) ∙ one_bit x 1 bit is (omega arith) (omega arith))

take_none : (k : ℕ) (bits : List Bool) → bits ≡ [] → take k bits ≡ []
take_none k bits none = grind (arith, common_steps)

-- no octets after a head give no bits
pub no_body : (n : ℕ) → (packed_body n []).bits ≡ []
unfolding wanted bits_of_octets
no_body n = elim (list_any (λ (b : Bool). b) (unused n [])) as (λ b. (capture_of b).bits ≡ []) [
  | true ↦ take_none (n / 8 * 8) [] refl
  | false ↦ take_none n [] refl
]
  where
    capture_of : Bool → Capture
    capture_of b = if b then record { bits = take (n / 8 * 8) []; fault = Some pad_bits } else
        record { bits = take n []; fault = if nat_lt (next_multiple_of n 8) 0 then Some trailing else None }

-- the end of the input adds no bit
pub same_bits : (xs : List ℕ) → (packed_whole xs).bits ≡ (packed_capture xs).bits
unfolding packed_whole packed_capture
same_bits xs = whole-bits (head_fault xs) packed_body xs
