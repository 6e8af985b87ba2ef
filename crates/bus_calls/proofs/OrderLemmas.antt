-- What one line asks for, and the bits of that.
use Rattle.std.proofs.Common.{◌≡◌, ℕ, ◌/◌, ◌%◌, ◌≤◌, ◌<◌, ◌==◌, nat_lt, nat_le, Bool, true, false, List, [], ◌∷◌, ◌++◌}
use Rattle.std.proofs.Common.{length, take, drop, codes, Option, Some, None, Result, Ok, Err, refl, ap, ◌∙◌}
use Rattle.std.proofs.Common.{arith, length-take}
use Rattle.std.proofs.lemmas.Bool.Decides.{nat_tests}
use Rattle.std.specs.List.{AllPass, last_or}
use Rattle.hex.specs.Hex.{decode_of, is_hex_digit}
use Rattle.hex.specs.declared.error.FromHexError.{FromHexError}
use Rattle.hex.proofs.HexLemmas.{decode_of-ok}
use Rattle.bus_line.specs.BitSink.{BitSinkView}
use Rattle.bus_line.specs.Line.{Call, Flag, Idle, Frame, added, gain}
use Rattle.bus_line.specs.EncoderState.{EncoderState}
use Rattle.bus_line.specs.Encoding.{AfterCalls, Calls, HasBadLength, Refused}
use Rattle.bus_line.specs.declared.fault.EncodeFault.{EncodeFault}
use Rattle.bus_line.specs.declared.fault.EncodeFault.TheVariants.{Ended, LengthRange, Sink}
use Rattle.bus_calls.specs.Encode.{sized_frame, decoded_frame, line_call, is_word}
use Rattle.bus_text.specs.declared.fault.ToolFault.TheVariants.{BadLine, FrameLength}
use Rattle.bus_calls.specs.declared.encode.bits.CallBits.{CallBits}
use Rattle.bus_text.proofs.ShowLemmas.{even_digits}

-- ---- frames

-- no digits, an odd number of them, or another character
pub no_frame : (n : ℕ) (s : List ℕ) → (1 ≤ length s → length s % 2 ≡ 0 → AllPass is_hex_digit s → ⊥) →
    decoded_frame n (decode_of s) ≡ Err (BadLine n)
no_frame n s none = answered (decode_of s) refl
  where
    answered : (r : Result (List ℕ) FromHexError) → decode_of s ≡ r → decoded_frame n r ≡ Err (BadLine n)
    answered (Err e) is = refl
    answered (Ok []) is = refl
    answered (Ok (o ∷ os)) is =
        let given = decode_of-ok s (o ∷ os) is in
        absurd (none (omega (arith, given.2)) given.0 given.1)

-- digits that give octets, at least one
frame_of : (n : ℕ) (s bytes : List ℕ) → decode_of s ≡ Ok bytes → 1 ≤ length bytes →
    decoded_frame n (decode_of s) ≡ sized_frame n bytes
frame_of n s [] is some = absurd (omega (arith, some))
frame_of n s (o ∷ os) is some = ap (decoded_frame n) is

frame_fits : (n : ℕ) (bytes : List ℕ) → 2 ≤ length bytes → length bytes ≤ 256 →
    sized_frame n bytes ≡ Ok (Some (Frame bytes))
frame_fits n bytes least most =
    let low : nat_le 2 (length bytes) ≡ true = grind (arith, least) in
    let high : nat_le (length bytes) 256 ≡ true = grind (arith, most) in
    rw (low, high) refl

frame_short : (n : ℕ) (bytes : List ℕ) → length bytes < 2 → sized_frame n bytes ≡ Err (FrameLength n)
frame_short n bytes few =
    let low : nat_le 2 (length bytes) ≡ false = grind (arith, few) in
    rw low refl

frame_long : (n : ℕ) (bytes : List ℕ) → 256 < length bytes → sized_frame n bytes ≡ Err (FrameLength n)
frame_long n bytes many =
    let low : nat_le 2 (length bytes) ≡ true = grind (arith, many) in
    let high : nat_le (length bytes) 256 ≡ false = grind (arith, many) in
    rw (low, high) refl

pub too_short : (n : ℕ) (s : List ℕ) → 1 ≤ length s → length s % 2 ≡ 0 → AllPass is_hex_digit s → length s / 2 < 2 →
    decoded_frame n (decode_of s) ≡ Err (FrameLength n)
too_short n s some even all few =
    let given = even_digits s even all in
    frame_of n s given.0 given.1 (omega (arith, given.2, some)) ∙ frame_short n given.0 (omega (arith, given.2, few))

pub too_long : (n : ℕ) (s : List ℕ) → length s % 2 ≡ 0 → AllPass is_hex_digit s → 256 < length s / 2 →
    decoded_frame n (decode_of s) ≡ Err (FrameLength n)
too_long n s even all many =
    let given = even_digits s even all in
    frame_of n s given.0 given.1 (omega (arith, given.2, many)) ∙ frame_long n given.0 (omega (arith, given.2, many))

-- octets that digits are
pub framed : (n : ℕ) (s bytes : List ℕ) → decode_of s ≡ Ok bytes → 2 ≤ length s / 2 → length s / 2 ≤ 256 →
    (decoded_frame n (decode_of s) ≡ Ok (Some (Frame bytes))) × (2 ≤ length bytes) × (length bytes ≤ 256)
framed n s bytes is least most =
    let half = (decode_of-ok s bytes is).2 in
    let few : 2 ≤ length bytes = omega (arith, half, least) in
    let many : length bytes ≤ 256 = omega (arith, half, most) in
    (frame_of n s bytes is (omega (arith, few)) ∙ frame_fits n bytes few many, few, many)

-- ---- lines

within : (line : List ℕ) → length line ≤ 600 → nat_lt 600 (length line) ≡ false
within line short = test (length line) short
  where
    test : (k : ℕ) → k ≤ 600 → nat_lt 600 k ≡ false
    test k small = grind (arith, nat_tests)

module _ (n : ℕ) (line : List ℕ) (few : length line ≤ 600) where
  pub call-none : (length line == 0) ≡ true → line_call n line ≡ Ok None
  unfolding line_call
  call-none none = rw (within line few, none) refl

  pub call-flag : (length line == 0) ≡ false → is_word (codes "flag") line ≡ true → line_call n line ≡ Ok (Some Flag)
  unfolding line_call
  call-flag some flag = rw (within line few, some, flag) refl

  pub call-idle : (length line == 0) ≡ false → is_word (codes "flag") line ≡ false →
      is_word (codes "idle") line ≡ true → line_call n line ≡ Ok (Some Idle)
  unfolding line_call
  call-idle some flag idle = rw (within line few, some, flag, idle) refl

  pub call-other : (length line == 0) ≡ false → is_word (codes "flag") line ≡ false →
      is_word (codes "idle") line ≡ false → is_word (codes "frame ") (take 6 line) ≡ false
      → line_call n line ≡ Err (BadLine n)
  unfolding line_call
  call-other some flag idle frame = rw (within line few, some, flag, idle, frame) refl

  pub call-frame : (length line == 0) ≡ false → is_word (codes "flag") line ≡ false →
      is_word (codes "idle") line ≡ false → is_word (codes "frame ") (take 6 line) ≡ true
      → line_call n line ≡ decoded_frame n (decode_of (drop 6 line))
  unfolding line_call
  call-frame some flag idle frame = rw (within line few, some, flag, idle, frame) refl

-- ---- bits

-- an encoder that goes on stands after some calls
pub some_calls : (e : EncoderState) → e.ended ≡ false → (calls : List Call) × AfterCalls e calls
some_calls e going = cases e.behind_flag refl
  where
    cases : (b : Bool) → e.behind_flag ≡ b → (calls : List Call) × AfterCalls e calls
    cases true is = (Flag ∷ [], record { going = going; last = is })
    cases false is = ([], record { going = going; last = is })

-- no call has more bits than there is room for
abbrev pub Fits : Call → Type 0
Fits call = (before : Option Call) → length (added before call) ≤ 2492

pub flag_fits : Fits Flag
flag_fits before = omega arith

pub idle_fits : Fits Idle
idle_fits before = omega arith

abbrev pub bits_sink : BitSinkView CallBits
bits_sink = record { taken = λ sink. Some sink.bits.items; refusals = λ sink. sink.refused }

never_refused : (call : Call) (written : ℕ) (old new : EncoderState) (before after : CallBits) → old.ended ≡ false →
    Fits call → before.bits.items ≡ [] → before.refused ≡ 0
    → Refused bits_sink call written old new before after → ⊥
never_refused call written old new before after going fits empty none refused =
    let stands = some_calls old going in
    let within = refused.within stands.0 stands.1 in
    let took : after.bits.items ≡ before.bits.items ++ take written (gain stands.0 call) =
    (let all = refused.took stands.0 stands.1 in cc) in
    let full : length after.bits.items ≡ 2492 = after.full (omega (arith, refused.failed)) in
    let count : length after.bits.items ≤ written = rw (took, empty) (length_take (gain stands.0 call) written) in
    omega (arith, full, count, within, fits (last_or None stands.0))
  where
    length_take : (b : List Bool) (k : ℕ) → length ([] ++ take k b) ≤ k
    length_take b k = simp length-take (omega arith)

-- there is room for the bits of a call
pub never_fails : (call : Call) (old new : EncoderState) (before after : CallBits) (r : Result (Unit {0}) EncodeFault)
    (e : EncodeFault) → r ≡ Err e → old.ended ≡ false → Fits call
    → before.bits.items ≡ [] → before.refused ≡ 0 → (HasBadLength call → ⊥)
    → Calls bits_sink call r old new before after → ⊥
never_fails call old new before after r Ended is going fits empty none sized calls =
    let ended : old.ended ≡ true = calls.ended.0 is in cc
never_fails call old new before after r LengthRange is going fits empty none sized calls = sized (calls.range.0 is).1
never_fails call old new before after r (Sink written) is going fits empty none sized calls =
    never_refused call written old new before after going fits empty none (calls.refused written is)
