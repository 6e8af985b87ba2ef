use Rattle.std.proofs.Common.{length, ◌%◌, ◌==◌, if◌then◌else◌, [], ◌∷◌}
use Rattle.std.proofs.lemmas.Result.{err_from_is_err_and}
use Rattle.bus_text.proofs.PagesLemmas.{cuts-more}
use Rattle.bus_tap.specs.Stopped.{with_stops}
use Rattle.bus_sample.specs.Marks.{marks_text, whole_text}
use Rattle.bus_sample.proofs.marks.Marks.end.Goals as goal

pub returns : goal.returns
returns g c = λ start most ts marked.
    c.close.ensures.closed start (whole_text (with_stops most ts))
    (c.end_line.ensures.ended start (g.W.Write.contents c.make_room.new.w) (with_stops most ts) (record {
      page = c.in_ok-make_room.ensures.turned start _ marked.page;
      column = marked.column;
    }))

pub returns-in_err-make_room : goal.returns-in_err-make_room
returns-in_err-make_room g c =
    let failed = err_from_is_err_and c.from_residual.result c.from_residual.ensures.1 in
    rw (failed.1, failed.2) (λ start most ts marked.
    cuts-more start (g.W.Write.contents c.make_room.new.w) (marks_text (with_stops most ts))
    (if length (with_stops most ts) % 64 == 0 then [] else 10 ∷ []) c.in_err-make_room.field-0.0.sent
    (c.in_err-make_room.ensures.turned start _ marked.page))
