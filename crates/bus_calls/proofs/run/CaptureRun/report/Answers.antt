use Rattle.std.proofs.Common.{◌++◌, refl}
use Rattle.std.proofs.lemmas.Result.{err_from_is_err_and}
use Rattle.bus_calls.specs.Internal.Watching.{lines, report_text}
use Rattle.bus_calls.proofs.run.CaptureRun.report.Goals as goal

pub returns-in_err-put_report : goal.returns-in_err-put_report
returns-in_err-put_report g c =
    let failed = err_from_is_err_and c.from_residual.result c.from_residual.ensures.1 in
    rw (failed.1, failed.2)
    (λ start b followed. c.in_err-put_report.ensures.put start (lines g.T.CaptureKind.kind c.args.self b) b
    followed.is_after
    followed.page)

pub returns : goal.returns
returns g c = λ start b followed.
    let kind = g.T.CaptureKind.kind in (
      c.in_ok-close.ensures.closed start (lines kind c.args.self b ++ report_text kind c.args.self b)
          (c.in_ok-put_report.ensures.put start (lines kind c.args.self b) b followed.is_after followed.page),
      refl,
    )

pub returns-in_err-close : goal.returns-in_err-close
returns-in_err-close g c =
    let failed = err_from_is_err_and c.from_residual-in_err-close.result c.from_residual-in_err-close.ensures.1 in
    rw (failed.1, failed.2) (λ start b followed.
    let kind = g.T.CaptureKind.kind in
    c.in_err-close.ensures.closed start (lines kind c.args.self b ++ report_text kind c.args.self b)
    (c.in_ok-put_report.ensures.put start (lines kind c.args.self b) b followed.is_after followed.page))
