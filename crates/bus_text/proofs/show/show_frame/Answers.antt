use Rattle.std.proofs.lemmas.Result.{err_from_is_err_and}
use Rattle.bus_text.proofs.ShowLemmas.{unread_shows}
use Rattle.bus_text.proofs.show.show_frame.Goals as goal

pub returns-in_err-dictionary : goal.returns-in_err-dictionary
returns-in_err-dictionary g c =
    let failed = err_from_is_err_and c.from_residual-in_err-dictionary.result
    c.from_residual-in_err-dictionary.ensures.1 in
    rw (failed.1, failed.2) (unread_shows _ c.args.hex.now c.in_ok-octets.octets.items (g.W.Write.contents c.args.w.now)
    c.in_err-dictionary.field-0.0 c.in_ok-octets.ensures.octets c.in_err-dictionary.ensures)
