-- What worked lines ask an encoder for, computed from the definitions alone.
use Rattle.std.proofs.Common.{◌≡◌, [], ◌∷◌, ◌++◌, Some, codes, refl}
use Rattle.std.specs.Path.{rsplit_once}
use Rattle.hex.specs.Hex.{decode_pairs}
use Rattle.bus_bits.specs.Octet.{bits_of, bits_of_octets, number, octets}
use Rattle.bus_fcs.specs.Division.{add, step, divided, remainder}
use Rattle.bus_fcs.specs.FrameCheck.{ends_inverted, fcs}
use Rattle.bus_line.specs.Line.{Flag, raw_bits}
use Rattle.bus_calls.specs.Lines.{ended_lines, open_line}
use Rattle.bus_calls.specs.Encode.{asked_behind, asked_in_all, bits_text, encode_text, line_call, text_behind}
use Rattle.bus_text.specs.declared.fault.ToolFault.TheVariants.{BadLine, FrameLength}

-- a frame, an idle and a frame
encoded : encode_text (asked_in_all (codes "frame 108300\nidle\nframe 1083fe\n")).calls
    ≡ codes "011111100000100011000001000000001011111011010011101111110\n111111111111111\n"
    ++ codes "0111111000001000110000010111110110011000011011111001111110\n"
unfolding asked_in_all asked_behind ended_lines open_line rsplit_once line_call decode_pairs text_behind bits_text
    raw_bits bits_of_octets bits_of fcs remainder divided step add ends_inverted octets number
encoded = refl

-- the line before one of another form stands
bad_line : asked_in_all (codes "flag\nframes 1083\n") ≡ record { calls = Flag ∷ []; fault = Some (BadLine 2) }
unfolding asked_in_all asked_behind ended_lines open_line rsplit_once line_call
bad_line = refl

short_frame : asked_in_all (codes "frame 10") ≡ record { calls = []; fault = Some (FrameLength 1) }
unfolding asked_in_all asked_behind ended_lines open_line rsplit_once line_call decode_pairs
short_frame = refl
