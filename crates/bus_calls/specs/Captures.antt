-- The captures of one line, of two, and of two with a clock each, and what is seen of them.
use Rattle.std.specs.Prelude.{◌≡◌, ◌⊎◌, ℕ, Bool, true, false, List, map, if◌then◌else◌, Option, Some}
use Rattle.std.specs.Io.KnownBytes.{IsAtEnd}
use Rattle.bus_formats.specs.Capture.{CaptureOf, text_capture, text_pair_capture, capped, CaptureFault, bad_mark, magic}
use Rattle.bus_formats.specs.Capture.{too_many, pad_bits, trailing, place_limit, short_head, short_body}
use Rattle.bus_formats.specs.Capture.{text_arrival_capture}
use Rattle.bus_formats.specs.Packed.{packed_arrival_capture, packed_arrival_whole}
use Rattle.bus_formats.specs.Packed.{packed_capture, packed_whole, packed_pair_capture, packed_pair_whole}
use Rattle.bus_dictionary.specs.Entry.{FrameType}
use Rattle.bus_dictionary.specs.Dictionary.{longest_of}
use Rattle.bus_line.specs.Due as line
use Rattle.bus_line.specs.LineReport.{LineReport, of_line, firsts, seconds, merged}
use Rattle.bus_pairing.specs.Seen.{SeenReport, seen}
use Rattle.bus_pairing.specs.Shown.{begun_span}
use Rattle.bus_line.specs.declared.line.Line.TheVariants.{First}
use Rattle.bus_pairing.specs.declared.pending.Pending.{Pending}
use Rattle.bus_tap.specs.Arrival.{Arrival, arrival_of, own}
use Rattle.bus_tap.specs.Arrival.{arrived, begun_places}
use Rattle.bus_tap.specs.Rested.{rested}
use Rattle.bus_text.specs.Listing.{Line, ending_lines, pair_ending_lines}
use Rattle.bus_text.specs.declared.fault.ToolFault.{ToolFault}
use Rattle.bus_text.specs.declared.fault.ToolFault.TheVariants.{BadMark, Magic, TooMany, PadBits, Trailing, PlaceLimit}
use Rattle.bus_text.specs.declared.fault.ToolFault.TheVariants.{ShortHead, ShortBody}

-- in what captures differ; R is what they have, bits, pairs of bits or arrivals, and X what an analyser takes
pub record Form (R X : Type 0) : Type 0 where
  pub text : List ℕ → CaptureOf R  -- what octets of a text give
  pub packed : List ℕ → CaptureOf R  -- what those of a packed capture give, while more may come
  pub packed_whole : List ℕ → CaptureOf R  -- and what those give that are the whole input
  -- what the analyser takes of them, by the silence after which a second line comes to rest
  pub fed : ℕ → List R → List X
  pub reports : ℕ → ℕ → List X → List LineReport  -- the reports, by the place of the first X and the longest frame
  -- the lines of the end, by the place of the first X and the command that waits
  pub ending : ℕ → List X → Option Pending → List Line
  pub is_two : Bool  -- the frames of the history are told with the number of their line

-- one line
abbrev pub form_of_one : Form Bool Bool
form_of_one = record {
  text = text_capture;
  packed = packed_capture;
  packed_whole = packed_whole;
  fed = λ rest b. b;
  reports = λ origin longest b. of_line (line.placed origin longest b);
  ending = λ origin b waits. ending_lines (begun_span origin b) waits;
  is_two = false;
}

-- two lines
abbrev pub form_of_two : Form (Bool × Bool) (Bool × Bool)
form_of_two = record {
  text = text_pair_capture;
  packed = packed_pair_capture;
  packed_whole = packed_pair_whole;
  fed = λ rest ps. ps;
  reports = merged;
  ending = λ origin ps waits. pair_ending_lines (begun_span origin (firsts ps)) (begun_span origin (seconds ps)) waits;
  is_two = true;
}

-- two lines with a clock each
abbrev pub form_of_arrivals : Form (Bool × Bool) Arrival
form_of_arrivals = record {
  text = text_arrival_capture;
  packed = packed_arrival_capture;
  packed_whole = packed_arrival_whole;
  fed = λ rest xs. rested rest (map arrival_of xs);
  reports = arrived;
  ending = λ origin xs waits.
      pair_ending_lines (begun_span origin (own First xs)) (begun_places origin xs) waits;
  is_two = true;
}

module _ {R X : Type 0} (f : Form R X) where
  -- what octets give, while more may come: text, or packed
  abbrev pub unplaced : Bool → List ℕ → CaptureOf R
  unplaced text xs = if text then f.text xs else f.packed xs

  -- what octets give that are the whole input
  abbrev pub unplaced_whole : Bool → List ℕ → CaptureOf R
  unplaced_whole text xs = if text then f.text xs else f.packed_whole xs

  -- as an analyser takes it
  abbrev pub fed_by : ℕ → CaptureOf R → CaptureOf X
  fed_by rest c = record { bits = f.fed rest c.bits; fault = c.fault }

  -- where the first bit, or pair of bits, has the place `origin`; of arrivals the origin and the bits of both lines
  -- come to no more than the places
  abbrev pub capture : Bool → ℕ → ℕ → List ℕ → CaptureOf X
  capture text rest origin xs = capped origin (fed_by rest (unplaced text xs))

  abbrev pub whole_capture : Bool → ℕ → ℕ → List ℕ → CaptureOf X
  whole_capture text rest origin xs = capped origin (fed_by rest (unplaced_whole text xs))

  -- the reports, by a dictionary, whose longest frame bounds the frames
  abbrev pub reports_of_form : ℕ → List FrameType → List X → List LineReport
  reports_of_form origin d b = f.reports origin (longest_of d) b

  -- what is seen of them
  abbrev pub reports_seen : ℕ → List FrameType → List X → List SeenReport
  reports_seen origin d b = seen d (reports_of_form origin d b)

  -- the octets have this fault, or they are the whole input and have it
  abbrev pub HasFault : Bool → ℕ → ℕ → Option (List ℕ) → List ℕ → CaptureFault → Type 0
  HasFault text rest origin after xs cause =
      ((capture text rest origin xs).fault ≡ Some cause)
      ⊎ (IsAtEnd after × ((whole_capture text rest origin xs).fault ≡ Some cause))

-- the fault of a capture, as it is answered
abbrev pub IsSameFault : ToolFault → CaptureFault → Type 0
IsSameFault (BadMark at) f = f ≡ bad_mark at
IsSameFault Magic f = f ≡ magic
IsSameFault TooMany f = f ≡ too_many
IsSameFault PadBits f = f ≡ pad_bits
IsSameFault Trailing f = f ≡ trailing
IsSameFault PlaceLimit f = f ≡ place_limit
IsSameFault ShortHead f = f ≡ short_head
IsSameFault ShortBody f = f ≡ short_body
IsSameFault fault f = ⊥
