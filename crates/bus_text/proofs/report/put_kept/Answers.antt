use Rattle.std.proofs.lemmas.Result.{err_from_is_err_and}
use Rattle.bus_text.specs.CheckText.{last_text}
use Rattle.bus_text.proofs.PagesLemmas.{cuts-more}
use Rattle.bus_text.proofs.report.put_kept.Goals as goal

pub returns-in_err-make_room-clause-put : goal.returns-in_err-make_room-clause-put
returns-in_err-make_room-clause-put g c =
    let failed = err_from_is_err_and c.from_residual.result c.from_residual.ensures.1 in
    rw (failed.1, failed.2) (λ start text pages.
    cuts-more start (g.W.Write.contents c.make_room.new.w) text
    (last_text c.args.line c.args.kept.now.span c.args.kept.now.octets) c.in_err-make_room.field-0.0.sent
    (c.in_err-make_room.ensures.turned start text pages))
