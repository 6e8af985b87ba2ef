use Rattle.std.proofs.Common.{[], Some, Err, ap, ◌∙◌}
use Rattle.std.proofs.lemmas.Result.{err_from_is_err_and}
use Rattle.bus_calls.specs.Captures.{whole_capture}
use Rattle.bus_calls.specs.Internal.Sessions.{is_text}
use Rattle.bus_text.proofs.KnownBytesLemmas.{consumes_nothing, appends_nothing}
use Rattle.bus_calls.proofs.ListsLemmas.{listed, does-nothing, ends-lists, stops-lists}
use Rattle.bus_calls.proofs.KnownLemmas.{known-lists}
use Rattle.bus_calls.proofs.list.list_with.Goals as goal

pub returns-in_err-reader : goal.returns-in_err-reader
returns-in_err-reader g c =
    let failed = err_from_is_err_and c.from_residual.result c.from_residual.ensures.1 in
    let lists = does-nothing g.T.CaptureKind.kind.form c.args.o.now _ (g.W.Write.contents c.args.w.now)
    (g.W.Write.contents c.args.w.now) c.in_err-reader.field-0.0 c.in_err-reader.ensures.made (appends_nothing _) in
    rw (failed.1, failed.2) (record {
      listed = ([], consumes_nothing _, lists);
      known = known-lists g.T.CaptureKind.kind.form c.laws.ensures.form c.args.o.now _ _ _ _ []
          (Err c.in_err-reader.field-0.0)
          (consumes_nothing (g.R.Read.remaining c.args.r.now)) lists;
    })

pub returns-in-Ok : goal.returns-in-Ok
returns-in-Ok g c =
    let o = c.args.o.now in
    let start = g.W.Write.contents c.args.w.now in
    let w = c.read_to_end.new.self.run in
    let made = c.in_ok-reader.ensures.made in
    let given = c.in_ok-reader.ensures.given in
    let read = c.in-Ok.ensures.read in
    let asked = listed o (given.1 ∙ ap Some c.of.ensures) made.2 made.3 c.read_to_end.ensures.same in
    let lists = ends-lists g.T.CaptureKind.kind o made.0 (is_text c.in_ok-reader.reader.source)
    (g.R.Read.remaining c.read_to_end.new.r) start _ _ w read.0 c.end.result c.laws.ensures made.1 asked given.0 read.2
    (c.end.ensures start
    (whole_capture g.T.CaptureKind.kind.form (is_text c.in_ok-reader.reader.source)
    (g.T.CaptureKind.kind.rest w.analyser)
    (g.T.CaptureKind.kind.watch.origin w.analyser)
    read.0).bits read.2.bits) in
    record {
      listed = (read.0, read.1, lists);
      known = known-lists g.T.CaptureKind.kind.form c.laws.ensures.form o (g.R.Read.remaining c.args.r.now)
          (g.R.Read.remaining c.read_to_end.new.r) start _ read.0 c.end.result read.1 lists;
    }

pub returns-in-Err : goal.returns-in-Err
returns-in-Err g c =
    let o = c.args.o.now in
    let start = g.W.Write.contents c.args.w.now in
    let w = c.read_to_end.new.self.run in
    let made = c.in_ok-reader.ensures.made in
    let given = c.in_ok-reader.ensures.given in
    let read = c.in-Err.ensures.read in
    let asked = listed o (given.1 ∙ ap Some c.of.ensures) made.2 made.3 c.read_to_end.ensures.same in
    let lists = stops-lists g.T.CaptureKind.kind o made.0 (is_text c.in_ok-reader.reader.source)
    (g.R.Read.remaining c.read_to_end.new.r) start _ _ w read.0 c.in-Err.fault c.close_behind.result
    c.laws.ensures made.1 asked given.0 read.2 c.close_behind.ensures.cut c.close_behind.ensures.closed in
    record {
      listed = (read.0, read.1, lists);
      known = known-lists g.T.CaptureKind.kind.form c.laws.ensures.form o (g.R.Read.remaining c.args.r.now)
          (g.R.Read.remaining c.read_to_end.new.r) start _ read.0 (Err c.close_behind.result) read.1 lists;
    }
