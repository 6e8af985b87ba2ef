use Rattle.std.proofs.Common.{◌++◌, ◌∙◌, Ok, Err, length, take, arith}
use Rattle.std.proofs.lemmas.List.{length-take}
use Rattle.std.proofs.lemmas.Result.{err_from_is_err_and}
use Rattle.bus_bits.proofs.OctetLemmas.{least}
use Rattle.bus_formats.specs.Packed.{packed_arrival_capture, pair_body}
use Rattle.bus_calls.proofs.HeadedLemmas.{octets-read}
use Rattle.bus_calls.proofs.SessionsPackedLemmas.{octets-taken}
use Rattle.bus_calls.proofs.arrivals.ClockAnalyserCaptureKind.analyse_packed.Goals as goal

pub unpack_octets-requires-clause-sixteens : goal.unpack_octets-requires-clause-sixteens
unpack_octets-requires-clause-sixteens g c =
    let count = c.whole-count.result in
    omega (
      arith,
      length-take count c.args.octets.now,
      c.min.ensures ∙ least (length c.args.octets.now) 256,
      c.whole-count.ensures.within,
      c.whole-count.ensures.sixteens,
    )

pub returns-in_err-analyse_rested-clause-taken : goal.returns-in_err-analyse_rested-clause-taken
returns-in_err-analyse_rested-clause-taken g c =
    let failed = err_from_is_err_and c.from_residual.result c.from_residual.ensures.1 in
    rw (failed.1, failed.2) (λ start xs followed.
    let whole = take c.whole-count.result c.args.octets.now in (
      c.whole-count.result,
      octets-taken c.laws.ensures _ (xs ++ whole) c.unpack_octets.new.self (Err c.in_err-analyse_rested.field-0.0)
          c.requires.places c.analyse_rested.ensures.same followed.bits.bits
          (octets-read packed_arrival_capture pair_body c.arrivals_are_head_and_body.ensures.headed _ whole _
          c.unpack_octets.ensures.given followed.read)
          (c.in_err-analyse_rested.ensures.taken start _ followed.bits),
    ))

pub returns-clause-taken : goal.returns-clause-taken
returns-clause-taken g c = λ start xs followed.
    let whole = take c.whole-count.result c.args.octets.now in
    octets-taken c.laws.ensures _ (xs ++ whole) c.unpack_octets.new.self (Ok tt) c.requires.places
    c.analyse_rested.ensures.same followed.bits.bits
    (octets-read packed_arrival_capture pair_body c.arrivals_are_head_and_body.ensures.headed _ whole _
    c.unpack_octets.ensures.given followed.read) (c.in_ok-analyse_rested.ensures.taken start _ followed.bits)
