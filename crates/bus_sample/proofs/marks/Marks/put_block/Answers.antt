use Rattle.std.proofs.Common.{refl}
use Rattle.std.proofs.lemmas.Result.{err_from_is_err_and}
use Rattle.bus_tap.specs.Blocks.{block_arrivals}
use Rattle.bus_sample.specs.Internal.Runs.{HasMarked}
use Rattle.bus_sample.proofs.MarksLemmas.{cut-before}
use Rattle.bus_sample.proofs.marks.Marks.put_block.Goals as goal
use Rattle.bus_sample.proofs.marks.Marks.put_block.Goals.{then-remaining_capacity-lt-BLOCK+in_ok-write_out}
use Rattle.bus_sample.proofs.marks.Marks.put_block.Goals.{else-remaining_capacity-lt-BLOCK}

pub returns-in_err-write_out-clause-put : goal.returns-in_err-write_out-clause-put
returns-in_err-write_out-clause-put g c =
    let failed = err_from_is_err_and c.from_residual.result c.from_residual.ensures.1 in
    rw (failed.1, failed.2) (λ start most ts marked.
    cut-before start (g.W.Write.contents c.write_out.new.w) most ts (block_arrivals c.args.from c.args.edges.now) _
    c.in_err-write_out.field-0.0.sent refl (c.in_err-write_out.ensures.turned start _ marked.page))

pub returns-clause-put : goal.returns-clause-put
returns-clause-put g c = λ start most ts marked.
    let room : HasMarked start (g.W.Write.contents c.if-remaining_capacity-lt-BLOCK.w)
    c.if-remaining_capacity-lt-BLOCK.self most ts =
    elim c.if-remaining_capacity-lt-BLOCK.branch [
      | then-remaining_capacity-lt-BLOCK+in_ok-write_out w ↦
          rw (w.self-is, w.w-is) (record {
            page = w.in_ok-write_out.ensures.turned start _ marked.page;
            column = marked.column;
            stops = marked.stops;
            given = marked.given;
          })
      | else-remaining_capacity-lt-BLOCK w ↦ rw (w.self-is, w.w-is) marked
    ] in
    c.put_edges.ensures.put start _ most ts room
