use Rattle.std.proofs.Common.{◌++◌, List, ℕ, Option, refl}
use Rattle.std.proofs.lemmas.Result.{err_from_is_err_and}
use Rattle.bus_text.specs.Pages.{Pages}
use Rattle.bus_text.proofs.PagesLemmas.{cuts-more}
use Rattle.bus_calls.specs.Internal.Watching.{WatchAfter, lines, last_lines}
use Rattle.bus_calls.proofs.WatchingLemmas.{pages-ended, pages-unended}
use Rattle.bus_calls.proofs.run.CaptureRun.end.Given.{Over}
use Rattle.bus_calls.proofs.run.CaptureRun.end.Goals as goal
use Rattle.bus_calls.proofs.run.CaptureRun.end.Goals.{After-close, in-Some, in_default}

-- the lines of the end are on the page
ended : (g : Over) (c : After-close g) (start : Option (List ℕ)) (b : List g.row.T-Received.Denot) →
    WatchAfter g.T.CaptureKind.kind start (g.W.Write.contents c.args.w.now) c.args.self b
    → Pages start (g.W.Write.contents c.make_room.new.w) c.match-printer.page.text c.match-printer.page.written
    (lines g.T.CaptureKind.kind c.args.self b ++ last_lines g.T.CaptureKind.kind c.args.self b)
ended g c start b followed =
    let kind = g.T.CaptureKind.kind in
    let w = c.args.self in
    let turned = c.in_ok-make_room.ensures.turned start (lines kind w b) followed.page in
    elim c.match-printer.branch [
      | in-Some x ↦ pages-ended kind start _ w b x.in-Some.printer c.make_room.new.self x.put_ending.new.page
          c.match-printer.page x.in-Some.is x.page-is (x.put_ending.ensures.bytes b followed.is_after)
          x.put_ending.ensures.written turned
      | in_default x ↦ pages-unended kind start _ w b c.make_room.new.self c.match-printer.page x.in_default.is
          x.page-is
          turned
    ]

pub returns : goal.returns
returns g c = λ start b followed.
    (c.in_ok-close.ensures.closed start _ (ended g (goal.at.returns g c).After-close start b followed), refl)

pub returns-in_err-close : goal.returns-in_err-close
returns-in_err-close g c =
    let failed = err_from_is_err_and c.from_residual-in_err-close.result c.from_residual-in_err-close.ensures.1 in
    rw (failed.1, failed.2) (λ start b followed.
    c.in_err-close.ensures.closed start _ (ended g (goal.at.returns-in_err-close g c).After-close start b followed))

pub returns-in_err-make_room : goal.returns-in_err-make_room
returns-in_err-make_room g c =
    let failed = err_from_is_err_and c.from_residual.result c.from_residual.ensures.1 in
    rw (failed.1, failed.2) (λ start b followed.
    let kind = g.T.CaptureKind.kind in
    cuts-more start _ (lines kind c.args.self b) (last_lines kind c.args.self b) c.in_err-make_room.field-0.0.sent
    (c.in_err-make_room.ensures.turned start (lines kind c.args.self b) followed.page))
