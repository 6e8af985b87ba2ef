use Rattle.std.proofs.lemmas.Result.{err_from_is_err_and}
use Rattle.bus_text.specs.CheckText.{summary_text}
use Rattle.bus_text.proofs.PagesLemmas.{cuts-more, pages-more}
use Rattle.bus_text.proofs.report.put_summary.Goals as goal

pub returns-in_err-make_room-clause-put : goal.returns-in_err-make_room-clause-put
returns-in_err-make_room-clause-put g c =
    let failed = err_from_is_err_and c.from_residual.result c.from_residual.ensures.1 in
    rw (failed.1, failed.2) (λ start text pages.
    cuts-more start (g.W.Write.contents c.make_room.new.w) text (summary_text c.args.summary.now)
    c.in_err-make_room.field-0.0.sent (c.in_err-make_room.ensures.turned start text pages))

pub returns-clause-put : goal.returns-clause-put
returns-clause-put g c = λ start text pages.
    let page = c.make_room.new.self in
    pages-more start (g.W.Write.contents c.make_room.new.w) page.text c.push_summary.new.text page.written text
    (summary_text c.args.summary.now) c.push_summary.ensures.bytes
    (c.in_ok-make_room.ensures.turned start text pages)
