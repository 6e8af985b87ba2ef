-- What a call that encodes lines did to its reader and its writer.
use Rattle.std.specs.Prelude.{◌≡◌, ℕ, ◌≤◌, ◌⊎◌, List, length, take, Option, Some, None, Result, Ok, Err}
use Rattle.std.specs.Io.KnownBytes.{Appends, IsAtEnd}
use Rattle.bus_calls.specs.Encode.{Asked, asked_so_far, asked_in_all, encode_text}
use Rattle.bus_text.specs.declared.fault.ToolFault.{ToolFault}
use Rattle.bus_text.specs.declared.fault.ToolFault.TheVariants.{Read, ReadsLimit, Write, BadLine, FrameLength}

-- what the octets that were read ask for: as far as they go or, at the end of the input, in all
abbrev pub Asks : Option (List ℕ) → List ℕ → Asked → Type 0
Asks after xs a = (a ≡ asked_so_far xs) ⊎ (IsAtEnd after × (a ≡ asked_in_all xs))

-- What the call answered, which made at most `reads` reads of the octets xs, leaves its reader with `after`, and led
-- its writer from `start` to `now`.
abbrev pub Encodes : ℕ → Option (List ℕ) → Option (List ℕ) → Option (List ℕ) → List ℕ → Result (Unit {0}) ToolFault
    → Type 0
Encodes reads after start now xs (Ok _) =
    IsAtEnd after × ((asked_in_all xs).fault ≡ None) × Appends start now (encode_text (asked_in_all xs).calls)
Encodes reads after start now xs (Err (BadLine n)) =
    (a : Asked) × Asks after xs a × (a.fault ≡ Some (BadLine n)) × Appends start now (encode_text a.calls)
Encodes reads after start now xs (Err (FrameLength n)) =
    (a : Asked) × Asks after xs a × (a.fault ≡ Some (FrameLength n)) × Appends start now (encode_text a.calls)
Encodes reads after start now xs (Err Read) =
    ((asked_so_far xs).fault ≡ None) × Appends start now (encode_text (asked_so_far xs).calls)
Encodes reads after start now xs (Err ReadsLimit) =
    (reads ≤ length xs) × ((asked_so_far xs).fault ≡ None) × Appends start now (encode_text (asked_so_far xs).calls)
Encodes reads after start now xs (Err (Write written)) =
    (a : Asked) × Asks after xs a × (written ≤ length (encode_text a.calls))
    × Appends start now (take written (encode_text a.calls))
Encodes reads after start now xs (Err _) = ⊥

-- What the call answered, whose reader had all these octets left, and which led its writer from `start` to `now`.
abbrev pub EncodesAll : Option (List ℕ) → Option (List ℕ) → List ℕ → Result (Unit {0}) ToolFault → Type 0
EncodesAll start now all (Ok _) =
    ((asked_in_all all).fault ≡ None) × Appends start now (encode_text (asked_in_all all).calls)
EncodesAll start now all (Err (BadLine n)) =
    ((asked_in_all all).fault ≡ Some (BadLine n)) × Appends start now (encode_text (asked_in_all all).calls)
EncodesAll start now all (Err (FrameLength n)) =
    ((asked_in_all all).fault ≡ Some (FrameLength n)) × Appends start now (encode_text (asked_in_all all).calls)
EncodesAll start now all (Err Read) =
    (k : ℕ) × ((asked_so_far (take k all)).fault ≡ None)
    × Appends start now (encode_text (asked_so_far (take k all)).calls)
EncodesAll start now all (Err ReadsLimit) =
    (k : ℕ) × ((asked_so_far (take k all)).fault ≡ None)
    × Appends start now (encode_text (asked_so_far (take k all)).calls)
EncodesAll start now all (Err (Write written)) =
    (written ≤ length (encode_text (asked_in_all all).calls))
    × Appends start now (take written (encode_text (asked_in_all all).calls))
EncodesAll start now all (Err _) = ⊥
