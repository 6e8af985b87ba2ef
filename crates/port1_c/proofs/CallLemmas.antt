-- The bits of a frame in a sink with room for them.
use Rattle.std.proofs.Common.{◌≡◌, ℕ, ◌≤◌, true, List, [], ◌++◌, length, take, None, Some, Result, Err}
use Rattle.std.proofs.Common.{ap, ◌∙◌, arith, length-take}
use Rattle.bus_line.specs.BitSink.{BitSinkView}
use Rattle.bus_line.specs.Line.{Frame, added, gain, raw_bits}
use Rattle.bus_line.specs.Mark.{flag}
use Rattle.bus_line.specs.EncoderState.{EncoderState}
use Rattle.bus_line.specs.Encoding.{AfterCalls, Calls, Encoded, HasBadLength, Refused}
use Rattle.bus_line.specs.declared.fault.EncodeFault.{EncodeFault}
use Rattle.bus_line.specs.declared.fault.EncodeFault.TheVariants.{Ended, LengthRange, Sink}
use Rattle.bus_bits.specs.Bits.{bits_from}
use Rattle.port1_c.specs.declared.call_bits.CallBits.{CallBits}
use Rattle.bus_bits.proofs.BitLemmas.{length-from}

abbrev pub bits_sink : BitSinkView CallBits
bits_sink = record { taken = λ sink. Some (bits_from sink.octets 0 sink.count); refusals = λ sink. sink.refused }

none-yet : (sink : CallBits) → sink.count ≡ 0 → bits_from sink.octets 0 sink.count ≡ []
unfolding bits_from
none-yet sink e = ap (λ (n : ℕ). bits_from sink.octets 0 n) e

module _ (octets : List ℕ) (old new : EncoderState) (before after : CallBits) (first : AfterCalls old [])
    (empty : before.count ≡ 0) where
  -- a frame that was written
  pub frame-taken : Encoded bits_sink (Frame octets) old new before after →
      bits_from after.octets 0 after.count ≡ flag ++ (raw_bits octets ++ flag)
  frame-taken e =
      let t = e.took [] first in
      let b : bits_from after.octets 0 after.count ≡ bits_from before.octets 0 before.count ++ gain [] (Frame octets) =
      cc in
      b ∙ ap (λ bits. bits ++ gain [] (Frame octets)) (none-yet before empty)

  never-refused : (written : ℕ) → before.refused ≡ 0 → length (added None (Frame octets)) ≤ 2492 →
      Refused bits_sink (Frame octets) written old new before after → ⊥
  never-refused written none fits r =
      let within = r.within [] first in
      let t = r.took [] first in
      let b : bits_from after.octets 0 after.count ≡ bits_from before.octets 0 before.count
      ++ take written (gain [] (Frame octets)) = cc in
      let full : after.count ≡ 2496 = after.full (omega (arith, r.failed)) in
      let count : length (bits_from after.octets 0 after.count) ≡ length (take written (gain [] (Frame octets))) =
      ap length (b ∙ ap (λ bits. bits ++ take written (gain [] (Frame octets))) (none-yet before empty)) in
      omega (
        arith,
        full,
        count,
        within,
        fits,
        length-from after.octets 0 after.count,
        length-take written (gain [] (Frame octets)),
      )

  -- there is room for it
  pub never-fails : (r : Result (Unit {0}) EncodeFault) (e : EncodeFault) → r ≡ Err e → before.refused ≡ 0 →
      length (added None (Frame octets)) ≤ 2492 → (HasBadLength (Frame octets) → ⊥)
      → Calls bits_sink (Frame octets) r old new before after → ⊥
  never-fails r Ended is none fits sized calls =
      let ended : old.ended ≡ true = calls.ended.0 is in
      let going = first.going in
      cc
  never-fails r LengthRange is none fits sized calls = sized (calls.range.0 is).1
  never-fails r (Sink written) is none fits sized calls = never-refused written none fits (calls.refused written is)
