-- Listings and the report of a check that were worked out by hand, computed from the definitions alone. Types and names
-- are made up.
use Rattle.std.proofs.Common.{◌≡◌, ℕ, Bool, true, false, List, [], ◌∷◌, ◌++◌, Some, None, codes, refl}
use Rattle.std.specs.Fmt.{digits}
use Rattle.bus_bits.specs.Octet.{number, octets}
use Rattle.bus_bits.specs.Text.{text_bits}
use Rattle.bus_fcs.specs.Division.{add, step, divided, remainder}
use Rattle.bus_fcs.specs.FrameCheck.{ends_inverted, is_good}
use Rattle.bus_line.specs.Due.{placed}
use Rattle.bus_dictionary.specs.Entry.{FrameType}
use Rattle.bus_line.specs.LineReport.{LineReport, of_line}
use Rattle.bus_pairing.specs.Seen.{seen}
use Rattle.bus_pairing.specs.History.{tally, history}
use Rattle.bus_text.specs.Listing.{listing, text_of}
use Rattle.bus_text.specs.CheckText.{check_text, tallies_text}
use Rattle.bus_text.specs.Summary.{summary_of}
use Rattle.bus_text.specs.declared.filter.Filter.{Filter}
use Rattle.bus_text.specs.declared.kind.Kind.TheVariants.{Missing}
use Rattle.bus_text.specs.declared.printer.Printer.{Printer}

abbrev frame_type : ℕ → List ℕ → Bool → FrameType
frame_type ftype name answered =
    record { ftype = ftype; name = name; size = 0; answered = answered; window = None; bits = [] }

-- a call that is answered by a reply
abbrev calls : List FrameType
calls = frame_type 0 (codes "call") true ∷ frame_type 128 (codes "reply") false ∷ []

abbrev everything : Filter
everything = record { station = None; ftype = None; kind = None }

abbrev with_dictionary : Filter → Printer
with_dictionary filter = record { heads = true; filter = filter }

-- a call, a call in place of its reply, and a damaged piece
abbrev two_calls_and_damage : List LineReport
two_calls_and_damage =
    of_line
    (placed 0 3
    (text_bits (codes "01111110 00001000 11000001 00000000 101111101 10100111 01111110 00001000 11000001 00000000 "
    ++ codes "101111101 10100111 01111110 000000000000000000000000 01111110")))

listed : listing (with_dictionary everything) calls (seen calls two_calls_and_damage)
    ≡ codes "8 49 frame 108300fde5 station 16 type 0 call\n"
    ++ codes "57 98 frame 108300fde5 station 16 type 0 call\n8 49 missing station 16 type 0\n"
    ++ codes "106 130 damaged short\n57 98 spoilt station 16 type 0\n"
unfolding digits is_good remainder divided step add ends_inverted octets number text_of
listed = refl

only_missing : listing (with_dictionary (record everything { kind = Some Missing })) calls
    (seen calls two_calls_and_damage)
    ≡ codes "8 49 missing station 16 type 0\n"
unfolding digits is_good remainder divided step add ends_inverted octets number text_of
only_missing = refl

checked : check_text false (summary_of (seen calls two_calls_and_damage)) (tally calls two_calls_and_damage)
    (history 16 two_calls_and_damage)
    ≡ codes "frames 2\ndamaged 1\noverlong 0\naborts 0\nidles 0\nstrays 0\nanswered 0\nmissing 1\n"
    ++ codes "spoilt 1\nlate 0\nstation 16 answered 0 missing 1 spoilt 1 late 0\nlast 8 49 108300fde5\n"
    ++ codes "last 57 98 108300fde5\n"
unfolding digits is_good remainder divided step add ends_inverted octets number tallies_text
checked = refl

-- without a dictionary heads are not read
stored_run : listing (record { heads = false; filter = everything }) []
    (seen [] (of_line (placed 0 253 (text_bits (codes "01111110 00001000110000010000000010111110110100111 01111110")))))
    ≡ codes "8 49 frame 108300fde5\n"
unfolding digits is_good remainder divided step add ends_inverted octets number text_of
stored_run = refl
