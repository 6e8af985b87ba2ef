use Rattle.std.proofs.Common.{inl, inr, sym, ◌∙◌, arith}
use Rattle.bus_line.specs.Line.{Flag, Idle, Frame}
use Rattle.bus_calls.specs.Internal.EncodeState.{IsSized}
use Rattle.bus_calls.proofs.OrderLemmas.{never_fails, flag_fits, idle_fits}
use Rattle.bus_calls.proofs.encode.bits.bits_of.Goals as goal
use Rattle.bus_calls.proofs.encode.bits.bits_of.Goals.{in-Flag, in-Idle, in-Frame}

pub unreachable-requires : goal.unreachable-requires
unreachable-requires c = elim c.match-request.branch [
  | in-Flag w ↦
      let outcome = w.flag-outcome in
      never_fails Flag c.args.encoder.now outcome.new.self c.new-sink.result outcome.new.sink outcome.result
      c.in-Err.field-0
      (sym w.outcome-is ∙ c.in-Err.is) c.requires.going flag_fits
      c.new-sink.ensures.0 c.new-sink.ensures.1 (λ bad. bad) outcome.ensures
  | in-Idle w ↦
      let outcome = w.idle-outcome in
      never_fails Idle c.args.encoder.now outcome.new.self c.new-sink.result outcome.new.sink outcome.result
      c.in-Err.field-0
      (sym w.outcome-is ∙ c.in-Err.is) c.requires.going idle_fits
      c.new-sink.ensures.0 c.new-sink.ensures.1 (λ bad. bad) outcome.ensures
  | in-Frame w ↦
      let outcome = w.frame-outcome in
      let octets = w.deref.result.now in
      let sized : IsSized (Frame octets) = rw w.deref.ensures.0 (rw w.in-Frame.is at c.requires.sized) in
      never_fails (Frame octets) c.args.encoder.now outcome.new.self c.new-sink.result outcome.new.sink outcome.result
      c.in-Err.field-0
      (sym w.outcome-is ∙ c.in-Err.is) c.requires.going (outcome.ensures.bound sized.1)
      c.new-sink.ensures.0 c.new-sink.ensures.1
      (λ bad. elim bad
      [ inl few ↦ absurd (omega (arith, few, sized.0)) | inr many ↦ absurd (omega (arith, many, sized.1)) ])
      outcome.ensures.calls
]
