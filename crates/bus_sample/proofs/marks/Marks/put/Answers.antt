use Rattle.std.proofs.Common.{refl}
use Rattle.std.proofs.lemmas.Result.{err_from_is_err_and}
use Rattle.bus_tap.specs.Sampled.{bits_of_edges, with_sample}
use Rattle.bus_sample.proofs.MarksLemmas.{cut-before}
use Rattle.bus_sample.proofs.marks.Marks.put.Goals as goal

pub returns-in_err-make_room-clause-put : goal.returns-in_err-make_room-clause-put
returns-in_err-make_room-clause-put g c =
    let failed = err_from_is_err_and c.from_residual.result c.from_residual.ensures.1 in
    rw (failed.1, failed.2) (λ start most ts marked.
    cut-before start (g.W.Write.contents c.make_room.new.w) most ts
    (with_sample c.args.sample (bits_of_edges c.args.edges)) _ c.in_err-make_room.field-0.0.sent refl
    (c.in_err-make_room.ensures.turned start _ marked.page))

pub returns-clause-put : goal.returns-clause-put
returns-clause-put g c = λ start most ts marked.
    c.put_sample.ensures.put start (g.W.Write.contents c.make_room.new.w) most ts (record {
      page = c.in_ok-make_room.ensures.turned start _ marked.page;
      column = marked.column;
      stops = marked.stops;
      given = marked.given;
    })
