-- The text of one frame that is typed in hexadecimal.
use Rattle.std.specs.Prelude.{◌≡◌, ◌≢◌, ℕ, ◌-◌, ◌≤◌, ◌&&◌, List, [], ◌∷◌, ◌++◌, length, take, slice_range, decimal}
use Rattle.std.specs.Prelude.{codes, nat_le, Option, Some, None, Result, Ok, Err, if◌then◌else◌}
use Rattle.std.specs.List.{flat_map}
use Rattle.std.specs.Io.KnownBytes.{Appends}
use Rattle.hex.specs.Hex.{decode_of}
use Rattle.hex.specs.declared.error.FromHexError.{FromHexError}
use Rattle.bus_bits.specs.Octet.{bits_of_octets}
use Rattle.bus_fcs.specs.FrameCheck.{is_good}
use Rattle.bus_dictionary.specs.BitName.{NamedBit}
use Rattle.bus_dictionary.specs.NameWalk.{set_bits}
use Rattle.bus_dictionary.specs.Entry.{FrameType}
use Rattle.bus_dictionary.specs.Dictionary.{dictionary_of_text, entry_at}
use Rattle.bus_dictionary.specs.Standing.{standing}
use Rattle.bus_dictionary.specs.declared.fault.DictFault.{DictFault}
use Rattle.bus_dictionary.specs.declared.standing.Standing.{Standing}
use Rattle.bus_dictionary.specs.declared.standing.Standing.TheVariants.{Known}
use Rattle.bus_text.specs.Listing.{hex_of}
use Rattle.bus_text.specs.HeadText.{head_text}
use Rattle.bus_text.specs.declared.fault.ToolFault.{ToolFault}
use Rattle.bus_text.specs.declared.fault.ToolFault.TheVariants.{Memory, Write, Dictionary, Hex, FrameSize}

-- a frame with its check has 4 to 258 octets
abbrev pub if_frame : List ℕ → Result (List ℕ) ToolFault
if_frame octets = if nat_le 4 (length octets) && nat_le (length octets) 258 then Ok octets else Err FrameSize

-- octets that were decoded, at least one
abbrev pub if_decoded : Result (List ℕ) FromHexError → Result (List ℕ) ToolFault
if_decoded (Err e) = Err Hex
if_decoded (Ok []) = Err Hex
if_decoded (Ok (o ∷ os)) = if_frame (o ∷ os)

-- the octets of a frame that is typed
abbrev pub typed_frame : List ℕ → Result (List ℕ) ToolFault
typed_frame hex = if_decoded (decode_of hex)

-- the dictionary of a text; without a text it is empty
abbrev pub given_dictionary : Option (List ℕ) → Result (List FrameType) DictFault
given_dictionary None = Ok []
given_dictionary (Some text) = dictionary_of_text text

-- what the reading of a dictionary's text answers; want of memory may come in place of any reading, where there is a
-- text
abbrev pub Reads : Option (List ℕ) → Result (List FrameType) ToolFault → Type 0
Reads text (Ok d) = given_dictionary text ≡ Ok d
Reads text (Err (Dictionary fault)) = given_dictionary text ≡ Err fault
Reads text (Err Memory) = text ≢ None
Reads text (Err _) = ⊥

-- whether the check is good, and LF
abbrev pub verdict_text : List ℕ → List ℕ
verdict_text octets = if is_good (bits_of_octets octets) then codes " good\n" else codes " bad\n"

abbrev pub frame_text : List ℕ → List ℕ
frame_text octets = codes "frame " ++ hex_of octets ++ verdict_text octets

-- the line of a named bit
abbrev pub name_text : NamedBit → List ℕ
name_text b = decimal b.at ++ codes " " ++ b.name ++ codes "\n"

-- a line for each named bit that is 1 in the octets after the type
abbrev pub bit_lines : List ℕ → Option FrameType → List ℕ
bit_lines octets None = []
bit_lines octets (Some e) = flat_map name_text (set_bits (slice_range octets 3 (length octets - 2)) e.bits)

-- only where the dictionary knows the frame
abbrev pub names_text : Standing → List ℕ → List FrameType → List ℕ
names_text (Known station ftype) octets d = bit_lines octets (entry_at ftype d)
names_text _ octets d = []

-- what is shown of a frame
unfoldable pub shown_text : List ℕ → List FrameType → List ℕ
shown_text octets d =
    frame_text octets ++ (head_text (standing octets d) d ++ codes "\n") ++ names_text (standing octets d) octets d

-- What the call answered, which led its writer from `start` to `now`.
abbrev pub Shows : Option (List ℕ) → List ℕ → Option (List ℕ) → Option (List ℕ) → Result (Unit {0}) ToolFault → Type 0
Shows text hex start now (Err Hex) = (typed_frame hex ≡ Err Hex) × Appends start now []
Shows text hex start now (Err FrameSize) = (typed_frame hex ≡ Err FrameSize) × Appends start now []
Shows text hex start now (Err (Dictionary fault)) =
    (octets : List ℕ) × (typed_frame hex ≡ Ok octets) × (given_dictionary text ≡ Err fault) × Appends start now []
Shows text hex start now (Err Memory) =
    (octets : List ℕ) × (typed_frame hex ≡ Ok octets) × (text ≢ None) × Appends start now []
Shows text hex start now (Ok _) =
    (octets : List ℕ) × (d : List FrameType) × (typed_frame hex ≡ Ok octets) × (given_dictionary text ≡ Ok d)
    × Appends start now (shown_text octets d)
Shows text hex start now (Err (Write written)) =
    (octets : List ℕ) × (d : List FrameType) × (typed_frame hex ≡ Ok octets) × (given_dictionary text ≡ Ok d)
    × (written ≤ length (shown_text octets d)) × Appends start now (take written (shown_text octets d))
Shows text hex start now (Err _) = ⊥
