-- What lines ask an encoder for, and the text of its bits.
use Rattle.std.specs.Prelude.{ℕ, ◌+◌, ◌==◌, ◌&&◌, nat_lt, nat_le, Bool, List, [], ◌∷◌, ◌++◌, length, take, drop, map}
use Rattle.std.specs.Prelude.{codes, Option, Some, None, Result, Ok, Err, if◌then◌else◌}
use Rattle.std.specs.Cmp.Lexicographic.{pointwise}
use Rattle.std.specs.Io.BufRead.{strip_last}
use Rattle.hex.specs.Hex.{decode_of}
use Rattle.hex.specs.declared.error.FromHexError.{FromHexError}
use Rattle.bus_line.specs.Line.{Call, Flag, Idle, Frame, gain}
use Rattle.bus_calls.specs.Lines.{ended_lines, open_line, all_lines}
use Rattle.bus_text.specs.declared.fault.ToolFault.{ToolFault}
use Rattle.bus_text.specs.declared.fault.ToolFault.TheVariants.{BadLine, FrameLength}

-- the number of the line after so many others
abbrev pub text_line : ℕ → ℕ
text_line before = before + 1

-- the line is this text
abbrev pub is_word : List ℕ → List ℕ → Bool
is_word text line = pointwise (λ x y. x == y) line text

-- a frame of 2 to 256 octets can be sent
abbrev pub sized_frame : ℕ → List ℕ → Result (Option Call) ToolFault
sized_frame number octets =
    if nat_le 2 (length octets) && nat_le (length octets) 256
    then Ok (Some (Frame octets)) else Err (FrameLength number)

-- a frame of octets that were decoded, at least one
abbrev pub decoded_frame : ℕ → Result (List ℕ) FromHexError → Result (Option Call) ToolFault
decoded_frame number (Err e) = Err (BadLine number)
decoded_frame number (Ok []) = Err (BadLine number)
decoded_frame number (Ok (o ∷ os)) = sized_frame number (o ∷ os)

-- what a line of this number asks for, without its end: nothing where it is empty
unfoldable pub line_call : ℕ → List ℕ → Result (Option Call) ToolFault
line_call number line =
    if nat_lt 600 (length line) then Err (BadLine number)
    else if length line == 0 then Ok None
    else if is_word (codes "flag") line then Ok (Some Flag)
    else if is_word (codes "idle") line then Ok (Some Idle)
    else if is_word (codes "frame ") (take 6 line) then decoded_frame number (decode_of (drop 6 line))
    else Err (BadLine number)

-- the calls that lines ask for, up to the first line that is refused, and why that is
pub record Asked : Type 0 where
  pub calls : List Call
  pub fault : Option ToolFault

abbrev pub one_asked : Result (Option Call) ToolFault → Asked
one_asked (Ok None) = record { calls = []; fault = None }
one_asked (Ok (Some call)) = record { calls = call ∷ []; fault = None }
one_asked (Err e) = record { calls = []; fault = Some e }

-- after a fault nothing is asked for
abbrev pub unless_fault : Option ToolFault → List Call → Asked → Asked
unless_fault None calls next = record { calls = calls ++ next.calls; fault = next.fault }
unless_fault (Some e) calls next = record { calls = calls; fault = Some e }

-- what is asked for, and what next
abbrev pub and_then : Asked → Asked → Asked
and_then first next = unless_fault first.fault first.calls next

-- what a line after so many others asks for; a CR at its end is none of its own
abbrev pub line_asked : ℕ → List ℕ → Asked
line_asked before line = one_asked (line_call (text_line before) (strip_last 13 line))

-- what these lines ask for, after so many others
unfoldable pub asked_behind : ℕ → List (List ℕ) → Asked
asked_behind before [] = record { calls = []; fault = None }
asked_behind before (line ∷ lines) = and_then (line_asked before line) (asked_behind (before + 1) lines)

-- a line that stands open asks for nothing yet, but it is refused where it is too long, however it goes on
abbrev pub open_asked : ℕ → List ℕ → Asked
open_asked before line =
    record {
      calls = [];
      fault = if nat_lt 600 (length (strip_last 13 line))
          then Some (BadLine (text_line before)) else None;
    }

-- what these octets ask for, which more octets may follow
unfoldable pub asked_so_far : List ℕ → Asked
asked_so_far xs = and_then (asked_behind 0 (ended_lines xs)) (open_asked (length (ended_lines xs)) (open_line xs))

-- what these octets ask for, which no more follow
unfoldable pub asked_in_all : List ℕ → Asked
asked_in_all xs = asked_behind 0 (all_lines xs)

-- the character of a bit
abbrev pub bit_char : Bool → ℕ
bit_char bit = if bit then 49 else 48

-- the bits of a call, and LF
unfoldable pub bits_text : List Bool → List ℕ
bits_text bits = map bit_char bits ++ codes "\n"

-- the text of these calls after others
unfoldable pub text_behind : List Call → List Call → List ℕ
text_behind before [] = []
text_behind before (call ∷ calls) = bits_text (gain before call) ++ text_behind (before ++ call ∷ []) calls

-- the text of calls: for each the bits that the line gains by it, and LF
abbrev pub encode_text : List Call → List ℕ
encode_text calls = text_behind [] calls
