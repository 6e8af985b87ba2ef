-- What is known while lines are encoded.
use Rattle.std.specs.Prelude.{◌≡◌, ℕ, ◌≤◌, List, ◌++◌, length, take, Option, Some, None, Result, Ok, Err}
use Rattle.std.specs.Io.KnownBytes.{Appends, IsAtEnd}
use Rattle.bus_line.specs.Line.{Call, Flag, Idle, Frame}
use Rattle.bus_line.specs.EncoderState.{EncoderState}
use Rattle.bus_line.specs.Encoding.{AfterCalls}
use Rattle.bus_calls.specs.Lines.{ended_lines, open_line}
use Rattle.bus_calls.specs.Encode.{Asked, text_line, asked_behind, asked_so_far, asked_in_all, encode_text}
use Rattle.bus_calls.specs.Encodes.{Asks}
use Rattle.bus_text.specs.declared.fault.ToolFault.{ToolFault}
use Rattle.bus_text.specs.declared.fault.ToolFault.TheVariants.{Read, ReadsLimit, Write, BadLine, FrameLength}
use Rattle.bus_calls.specs.declared.encode.request.EncodeRequest.{EncodeRequest}
use Rattle.bus_calls.specs.declared.encode.request.EncodeRequest.TheVariants as request

-- the call that is asked for
abbrev pub call_of : EncodeRequest → Call
call_of request.Flag = Flag
call_of request.Idle = Idle
call_of (request.Frame octets) = Frame octets.items

-- a frame of 2 to 256 octets
abbrev pub IsSized : Call → Type 0
IsSized (Frame octets) = (2 ≤ length octets) × (length octets ≤ 256)
IsSized _ = Unit {0}

-- these calls were encoded, and their text went out
pub record HasEncoded (start now : Option (List ℕ)) (encoder : EncoderState) (written : ℕ)
    (calls : List Call) : Type 0 where
  pub after : AfterCalls encoder calls
  pub out : Appends start now (encode_text calls)
  pub count : written ≡ length (encode_text calls)

-- these octets were taken, none of their lines is refused, and their text went out
pub record EncodedAfter (start now : Option (List ℕ)) (line : List ℕ) (number : ℕ) (encoder : EncoderState)
    (written : ℕ)
    (xs : List ℕ) : Type 0 where
  pub here : line ≡ open_line xs
  pub lines : number ≡ text_line (length (ended_lines xs))
  pub clean : (asked_so_far xs).fault ≡ None
  pub done : HasEncoded start now encoder written (asked_behind 0 (ended_lines xs)).calls

-- this fault stopped what was asked for
abbrev pub EncodeHalts : Option (List ℕ) → Option (List ℕ) → ℕ → Asked → ToolFault → Type 0
EncodeHalts start now written a (BadLine n) =
    (a.fault ≡ Some (BadLine n)) × Appends start now (encode_text a.calls) × (written ≡ length (encode_text a.calls))
EncodeHalts start now written a (FrameLength n) =
    (a.fault ≡ Some (FrameLength n)) × Appends start now (encode_text a.calls)
    × (written ≡ length (encode_text a.calls))
EncodeHalts start now written a (Write sent) =
    (sent ≤ length (encode_text a.calls)) × Appends start now (take sent (encode_text a.calls))
EncodeHalts start now written a _ = ⊥

-- how a line ended that stands after these calls and asks for `one`
abbrev pub Ends : Option (List ℕ) → Option (List ℕ) → EncoderState → ℕ → List Call → Asked
    → Result (Unit {0}) ToolFault → Type 0
Ends start now encoder written calls one (Ok _) =
    (one.fault ≡ None) × HasEncoded start now encoder written (calls ++ one.calls)
Ends start now encoder written calls one (Err e) =
    EncodeHalts start now written (record { calls = calls ++ one.calls; fault = one.fault }) e

-- how the reading of these octets ended, whose reader has `after` left, before the flush
abbrev pub EncodeFinishes : ℕ → Option (List ℕ) → Option (List ℕ) → Option (List ℕ) → ℕ → List ℕ
    → Result (Unit {0}) ToolFault → Type 0
EncodeFinishes reads after start now written xs (Ok _) =
    IsAtEnd after × ((asked_in_all xs).fault ≡ None) × Appends start now (encode_text (asked_in_all xs).calls)
    × (written ≡ length (encode_text (asked_in_all xs).calls))
EncodeFinishes reads after start now written xs (Err Read) =
    ((asked_so_far xs).fault ≡ None) × Appends start now (encode_text (asked_so_far xs).calls)
    × (written ≡ length (encode_text (asked_so_far xs).calls))
EncodeFinishes reads after start now written xs (Err ReadsLimit) =
    (reads ≤ length xs) × ((asked_so_far xs).fault ≡ None) × Appends start now (encode_text (asked_so_far xs).calls)
    × (written ≡ length (encode_text (asked_so_far xs).calls))
EncodeFinishes reads after start now written xs (Err e) =
    (a : Asked) × Asks after xs a × EncodeHalts start now written a e
