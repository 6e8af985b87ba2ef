use Rattle.std.proofs.Common.{◌++◌, Err, Ok, take}
use Rattle.std.proofs.lemmas.Result.{err_from_is_err_and}
use Rattle.bus_calls.proofs.SessionsTextLemmas.{mark-taken}
use Rattle.bus_calls.proofs.one_line.analyse_block.Goals as goal

pub returns-in_err-analyse_bits-clause-taken : goal.returns-in_err-analyse_bits-clause-taken
returns-in_err-analyse_bits-clause-taken g c =
    let failed = err_from_is_err_and c.from_residual.result c.from_residual.ensures.1 in
    let packed = c.pack-packed in
    rw (failed.1, failed.2) (λ start xs followed. (
      packed.result.taken,
      packed.ensures.enough,
      mark-taken c.laws.ensures _ (xs ++ take packed.result.taken c.args.text.now) (Err c.in_err-analyse_bits.field-0.0)
          c.requires.sound.places c.analyse_bits.ensures.same followed.bits.bits
          (packed.ensures.given xs followed.clean) (c.in_err-analyse_bits.ensures.taken start _ followed.bits),
    ))

pub returns-clause-taken : goal.returns-clause-taken
returns-clause-taken g c = λ start xs followed.
    mark-taken c.laws.ensures _ (xs ++ take c.pack-packed.result.taken c.args.text.now) (Ok tt) c.requires.sound.places
    c.analyse_bits.ensures.same followed.bits.bits (c.pack-packed.ensures.given xs followed.clean)
    (c.in_ok-analyse_bits.ensures.taken start _ followed.bits)
