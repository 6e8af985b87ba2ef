use Rattle.std.proofs.Common.{◌≡◌, ◌++◌, ◌∙◌, [], Bool, sym, ap, if◌then◌else◌}
use Rattle.std.proofs.lemmas.Result.{err_from_is_err_and}
use Rattle.bus_text.specs.CheckText.{tally_line, tally_text}
use Rattle.bus_text.proofs.PagesLemmas.{cuts-more, pages-more}
use Rattle.bus_text.proofs.report.put_tally.Goals as goal

pub returns-in_err-make_room-clause-put : goal.returns-in_err-make_room-clause-put
returns-in_err-make_room-clause-put g c =
    let failed = err_from_is_err_and c.from_residual.result c.from_residual.ensures.1 in
    rw (failed.1, failed.2) (λ start text pages.
    cuts-more start (g.W.Write.contents c.make_room.new.w) text (tally_text c.args.station c.args.counts)
    c.in_err-make_room.field-0.0.sent (c.in_err-make_room.ensures.turned start text pages))

pub returns-clause-put : goal.returns-clause-put
returns-clause-put g c = λ start text pages.
    let line = tally_line c.args.station c.args.counts in
    let page = c.make_room.new.self.text in
    let told : tally_text c.args.station c.args.counts ≡ line =
    ap (λ (b : Bool). if b then [] else line) (sym c.has_none.ensures ∙ c.if-has_none.false) in
    pages-more start (g.W.Write.contents c.make_room.new.w) page c.push_tally.new.text c.make_room.new.self.written text
    (tally_text c.args.station c.args.counts)
    (c.push_tally.ensures.bytes ∙ ap (λ l. page.items ++ l) (sym told))
    (c.in_ok-make_room.ensures.turned start text pages)
