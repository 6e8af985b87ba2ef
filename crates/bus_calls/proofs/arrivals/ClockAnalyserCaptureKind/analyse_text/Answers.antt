use Rattle.std.proofs.Common.{◌++◌, Err, Ok, take}
use Rattle.std.proofs.lemmas.Result.{err_from_is_err_and}
use Rattle.bus_calls.proofs.SessionsTextLemmas.{mark-taken}
use Rattle.bus_calls.proofs.arrivals.ClockAnalyserCaptureKind.analyse_text.Goals as goal

pub returns-in_err-analyse_rested-clause-taken : goal.returns-in_err-analyse_rested-clause-taken
returns-in_err-analyse_rested-clause-taken g c =
    let failed = err_from_is_err_and c.from_residual.result c.from_residual.ensures.1 in
    let next = c.part-block in
    rw (failed.1, failed.2) (λ start xs followed. (
      next.result.taken,
      next.ensures.enough,
      mark-taken c.laws.ensures _ (xs ++ take next.result.taken c.args.octets.now)
          (Err c.in_err-analyse_rested.field-0.0) c.requires.places c.analyse_rested.ensures.same followed.bits.bits
          (next.ensures.given xs followed.clean) (c.in_err-analyse_rested.ensures.taken start _ followed.bits),
    ))

pub returns-clause-taken : goal.returns-clause-taken
returns-clause-taken g c = λ start xs followed.
    mark-taken c.laws.ensures _ (xs ++ take c.part-block.result.taken c.args.octets.now) (Ok tt) c.requires.places
    c.analyse_rested.ensures.same followed.bits.bits (c.part-block.ensures.given xs followed.clean)
    (c.in_ok-analyse_rested.ensures.taken start _ followed.bits)
