use Rattle.std.proofs.Common.{◌++◌, Ok, Err, take}
use Rattle.std.proofs.lemmas.Result.{err_from_is_err_and}
use Rattle.bus_formats.specs.Packed.{packed_capture, packed_body}
use Rattle.bus_calls.proofs.HeadedLemmas.{octets-read}
use Rattle.bus_calls.proofs.SessionsPackedLemmas.{octets-taken}
use Rattle.bus_calls.proofs.one_line.AnalyserCaptureKind.analyse_packed.Goals as goal

pub returns-in_err-analyse_bits-clause-taken : goal.returns-in_err-analyse_bits-clause-taken
returns-in_err-analyse_bits-clause-taken g c =
    let failed = err_from_is_err_and c.from_residual.result c.from_residual.ensures.1 in
    rw (failed.1, failed.2) (λ start xs followed.
    let whole = take c.whole-count.result c.args.octets.now in (
      c.whole-count.result,
      octets-taken c.laws.ensures _ (xs ++ whole) c.consume_octets.new.self (Err c.in_err-analyse_bits.field-0.0)
          c.requires.places c.analyse_bits.ensures.same followed.bits.bits
          (octets-read packed_capture packed_body c.packed_is_head_and_body.ensures.headed _ whole _
          c.consume_octets.ensures.given followed.read)
          (c.in_err-analyse_bits.ensures.taken start _ followed.bits),
    ))

pub returns-clause-taken : goal.returns-clause-taken
returns-clause-taken g c = λ start xs followed.
    let whole = take c.whole-count.result c.args.octets.now in
    octets-taken c.laws.ensures _ (xs ++ whole) c.consume_octets.new.self (Ok tt) c.requires.places
    c.analyse_bits.ensures.same followed.bits.bits
    (octets-read packed_capture packed_body c.packed_is_head_and_body.ensures.headed _ whole _
    c.consume_octets.ensures.given followed.read)
    (c.in_ok-analyse_bits.ensures.taken start _ followed.bits)
