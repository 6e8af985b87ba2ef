use Rattle.std.proofs.Common.{◌∙◌, subst, refl, [], Err}
use Rattle.std.proofs.lemmas.Result.{err_from_is_err_and}
use Rattle.bus_text.proofs.KnownBytesLemmas.{appends_nothing, consumes_nothing}
use Rattle.bus_sample.specs.Samples.{SamplesBy}
use Rattle.bus_sample.specs.Looks.{before, HasTold, LooksBefore}
use Rattle.bus_sample.proofs.LookLemmas.{looks-ended, looks-closed}
use Rattle.bus_sample.proofs.ReadLemmas.{fails-ended, fails-closed}
use Rattle.bus_sample.proofs.sample.sample_recording.Goals as goal

pub returns-in-Ok-clause-samples : goal.returns-in-Ok-clause-samples
returns-in-Ok-clause-samples g c =
    let read = c.in-Ok.ensures.read in
    let given = c.in_ok-run.ensures.given in
    let options = c.in-Ok.ensures.options ∙ given in
    let start = g.E.Write.contents c.args.e.now in
    let now = g.E.Write.contents c.read_to_end.new.e in (
      read.0,
      read.1,
      rw options at (c.end.ensures.samples _ _ read.0 read.2),
      looks-ended c.args.options.now start now read.0 c.end.result c.end.ensures.cut
          (subst (λ o. HasTold o start now read.0) given read.3),
    )

pub returns-in-Err-clause-samples : goal.returns-in-Err-clause-samples
returns-in-Err-clause-samples g c =
    let read = c.in-Err.ensures.read in
    let given = c.in_ok-run.ensures.given in
    let options = c.in-Err.ensures.options ∙ given in
    let after = g.R.RecordingReader.remaining c.read_to_end.new.r in
    let start = g.E.Write.contents c.args.e.now in
    let now = g.E.Write.contents c.read_to_end.new.e in (
      read.0,
      read.1,
      subst (λ o. SamplesBy o after (g.W.Write.contents c.args.w.now) (g.W.Write.contents c.close_behind.new.w) read.0
          (Err c.close_behind.result)) options (c.close_behind.ensures.samples after _ read.0 read.2),
      looks-closed c.args.options.now start now read.0 c.in-Err.fault c.close_behind.result
          c.close_behind.ensures.fault
          (subst (λ o. LooksBefore o start now read.0 c.in-Err.fault) given read.3),
    )

pub returns-in_err-run-clause-samples : goal.returns-in_err-run-clause-samples
returns-in_err-run-clause-samples g c =
    let raised = err_from_is_err_and c.from_residual.result c.from_residual.ensures.1 in
    let size = c.in_err-run.ensures.size in
    rw (raised.1, raised.2, size.0) (
      [],
      consumes_nothing _,
      (size.1, refl, appends_nothing _),
      ([], before, appends_nothing _),
    )

pub returns-in-Ok-clause-failures : goal.returns-in-Ok-clause-failures
returns-in-Ok-clause-failures g c = fails-ended c.end.result _ _ c.in-Ok.ensures.failures c.end.ensures.cut

pub returns-in-Err-clause-failures : goal.returns-in-Err-clause-failures
returns-in-Err-clause-failures g c =
    fails-closed c.in-Err.fault c.close_behind.result _ _ c.close_behind.ensures.fault c.in-Err.ensures.failures

pub returns-in_err-run-clause-failures : goal.returns-in_err-run-clause-failures
returns-in_err-run-clause-failures g c =
    let raised = err_from_is_err_and c.from_residual.result c.from_residual.ensures.1 in
    rw (raised.1, raised.2, c.in_err-run.ensures.size.0) refl
