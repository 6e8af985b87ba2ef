-- There is room for the bits of a frame.
use Rattle.std.proofs.Common.{◌≡◌, ◌≤◌, ◌++◌, ℕ, List, Bool, true, [], length, take, Option, Some, None, Result, Ok}
use Rattle.std.proofs.Common.{Err, IsErrAnd, inl, inr, refl, arith, length-take}
use Rattle.std.proofs.lemmas.Bool.{cases_lt}
use Rattle.bus_line.specs.BitSink.{BitSinkView}
use Rattle.bus_line.specs.Line.{Call, Frame, added, gain}
use Rattle.bus_line.specs.EncoderState.{EncoderState}
use Rattle.bus_line.specs.Encoding.{AfterCalls, Calls, Refused}
use Rattle.bus_line.specs.declared.fault.EncodeFault.{EncodeFault}
use Rattle.bus_line.specs.declared.fault.EncodeFault.TheVariants.{Ended, LengthRange, Sink}
use Rattle.bus_examples.specs.declared.sending.FrameBits.{FrameBits}

abbrev pub bits_sink : BitSinkView FrameBits
bits_sink = record { taken = λ sink. Some sink.bits.items; refusals = λ sink. sink.refused }

-- an empty sink has room for a call of at most 2492 bits
never_refused : (call : Call) (written : ℕ) (old new : EncoderState) (before after : FrameBits) → AfterCalls old [] →
    length (added None call) ≤ 2492
    → before.bits.items ≡ [] → before.refused ≡ 0 → Refused bits_sink call written old new before after →
    ⊥
never_refused call written old new before after start fits empty none r =
    let within = r.within [] start in
    let took : after.bits.items ≡ before.bits.items ++ take written (gain [] call) = let t = r.took [] start in cc in
    let full : length after.bits.items ≡ 2492 = after.full (omega (arith, r.failed)) in
    let count : length after.bits.items ≤ written = rw took (rw empty (length_take (gain [] call) written)) in
    omega (arith, full, count, within, fits)
  where
    length_take : (b : List Bool) (k : ℕ) → length ([] ++ take k b) ≤ k
    length_take b k = simp length-take (omega arith)

-- the only fault of a new encoder at an empty sink
pub only_length : (octets : List ℕ) (old new : EncoderState) (before after : FrameBits)
    (r : Result (Unit {0}) EncodeFault) (e : EncodeFault) → r ≡ Err e → AfterCalls old []
    → (length octets ≤ 256 → (last : Option Call) → length (added last (Frame octets)) ≤ 2492) →
    before.bits.items ≡ [] → before.refused ≡ 0
    → Calls bits_sink (Frame octets) r old new before after → e ≡ LengthRange
only_length octets old new before after r Ended is start fits empty none calls =
    absurd (let ended : old.ended ≡ true = calls.ended.0 is in let going = start.going in cc)
only_length octets old new before after r LengthRange is start fits empty none calls = refl
only_length octets old new before after r (Sink written) is start fits empty none calls =
    elim (cases_lt 256 (length octets)) [
      | inl many ↦ absurd (let too_long = calls.range.1 (start.going, inr many) in cc)
      | inr few ↦ absurd (never_refused (Frame octets) written old new before after start (fits few None) empty none
          (calls.refused written is))
    ]

-- the fault of a result
pub is_of : {T E : Type 0} (r : Result T E) (e : E) {want : E} → e ≡ want → IsErrAnd r (λ f. f ≡ e) → r ≡ Err want
is_of (Ok x) e is h = absurd h
is_of (Err f) e is h = cc
