use Rattle.std.proofs.Common.{[], Err}
use Rattle.std.proofs.lemmas.Result.{err_from_is_err_and}
use Rattle.bus_calls.specs.Captures.{whole_capture}
use Rattle.bus_calls.specs.Internal.Sessions.{is_text}
use Rattle.bus_text.proofs.KnownBytesLemmas.{consumes_nothing, appends_nothing}
use Rattle.bus_calls.proofs.ChecksLemmas.{checked, checks-nothing, ends-checks, stops-checks}
use Rattle.bus_calls.proofs.KnownLemmas.{known-checks}
use Rattle.bus_calls.proofs.check.check_with.Goals as goal

pub returns-in_err-reader : goal.returns-in_err-reader
returns-in_err-reader g c =
    let failed = err_from_is_err_and c.from_residual.result c.from_residual.ensures.1 in
    let checks = checks-nothing g.T.CaptureKind.kind.form c.args.o.now _ (g.W.Write.contents c.args.w.now)
    (g.W.Write.contents c.args.w.now) c.in_err-reader.field-0.0 c.in_err-reader.ensures.made (appends_nothing _) in
    rw (failed.1, failed.2) (record {
      checked = ([], consumes_nothing _, checks);
      known = known-checks g.T.CaptureKind.kind.form c.laws.ensures.form c.args.o.now _ _ _ _ []
          (Err c.in_err-reader.field-0.0)
          (consumes_nothing (g.R.Read.remaining c.args.r.now)) checks;
    })

pub returns : goal.returns
returns g c =
    let o = c.args.o.now in
    let start = g.W.Write.contents c.args.w.now in
    let w = c.read_to_end.new.self.run in
    let made = c.in_ok-reader.ensures.made in
    let given = c.in_ok-reader.ensures.given in
    let read = c.in_ok-read_to_end.ensures.read in
    let asked = checked o given.1 made.2 made.3 c.read_to_end.ensures.same in
    let checks = ends-checks g.T.CaptureKind.kind o made.0 (is_text c.in_ok-reader.reader.source)
    (g.R.Read.remaining c.read_to_end.new.r) start _ _ w read.0 c.report.result c.laws.ensures made.1 asked given.0
    read.2
    (c.report.ensures start
    (whole_capture g.T.CaptureKind.kind.form (is_text c.in_ok-reader.reader.source)
    (g.T.CaptureKind.kind.rest w.analyser)
    (g.T.CaptureKind.kind.watch.origin w.analyser)
    read.0).bits read.2.bits) in
    record {
      checked = (read.0, read.1, checks);
      known = known-checks g.T.CaptureKind.kind.form c.laws.ensures.form o (g.R.Read.remaining c.args.r.now)
          (g.R.Read.remaining c.read_to_end.new.r) start _ read.0 c.report.result read.1 checks;
    }

pub returns-in_err-read_to_end : goal.returns-in_err-read_to_end
returns-in_err-read_to_end g c =
    let failed = err_from_is_err_and c.from_residual-in_err-read_to_end.result
    c.from_residual-in_err-read_to_end.ensures.1 in
    let o = c.args.o.now in
    let start = g.W.Write.contents c.args.w.now in
    let w = c.read_to_end.new.self.run in
    let made = c.in_ok-reader.ensures.made in
    let given = c.in_ok-reader.ensures.given in
    let read = c.in_err-read_to_end.ensures.read in
    let asked = checked o given.1 made.2 made.3 c.read_to_end.ensures.same in
    let checks = stops-checks g.T.CaptureKind.kind o made.0 (is_text c.in_ok-reader.reader.source)
    (g.R.Read.remaining c.read_to_end.new.r) start _ w read.0 c.in_err-read_to_end.field-0.0 made.1 asked given.0
    read.2 in
    rw (failed.1, failed.2) (record {
      checked = (read.0, read.1, checks);
      known = known-checks g.T.CaptureKind.kind.form c.laws.ensures.form o (g.R.Read.remaining c.args.r.now)
          (g.R.Read.remaining c.read_to_end.new.r) start _ read.0 (Err c.in_err-read_to_end.field-0.0) read.1 checks;
    })
