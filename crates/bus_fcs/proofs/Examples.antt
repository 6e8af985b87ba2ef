-- The published check value of this CRC and others, computed from the definitions alone.
use Rattle.std.proofs.Common.{◌≡◌, [], ◌∷◌, true, false, refl}
use Rattle.bus_bits.specs.Octet.{bits_of, bits_of_octets}
use Rattle.bus_fcs.specs.Division.{add, step, divided, remainder}
use Rattle.bus_fcs.specs.FrameCheck.{ends_inverted, Good, is_good, fcs}

digits : fcs (bits_of_octets (0x31 ∷ 0x32 ∷ 0x33 ∷ 0x34 ∷ 0x35 ∷ 0x36 ∷ 0x37 ∷ 0x38 ∷ 0x39 ∷ []))
    ≡ bits_of_octets (0x6e ∷ 0x90 ∷ [])
unfolding add step divided remainder fcs bits_of bits_of_octets
digits = refl

reply : fcs (bits_of_octets (0x10 ∷ 0x83 ∷ 0x81 ∷ 0x01 ∷ 0x02 ∷ [])) ≡ bits_of_octets (0x6e ∷ 0x1f ∷ [])
unfolding add step divided remainder fcs bits_of bits_of_octets
reply = refl

frame : Good (bits_of_octets (0x10 ∷ 0x83 ∷ 0x00 ∷ 0xfd ∷ 0xe5 ∷ []))
unfolding add step divided remainder ends_inverted Good bits_of bits_of_octets
frame = refl

frame_test : is_good (bits_of_octets (0x10 ∷ 0x83 ∷ 0x00 ∷ 0xfd ∷ 0xe5 ∷ [])) ≡ true
unfolding add step divided remainder ends_inverted is_good bits_of bits_of_octets
frame_test = refl

-- the octets of the check exchanged
exchanged : is_good (bits_of_octets (0x10 ∷ 0x83 ∷ 0x00 ∷ 0xe5 ∷ 0xfd ∷ [])) ≡ false
unfolding add step divided remainder ends_inverted is_good bits_of bits_of_octets
exchanged = refl
