use Rattle.std.proofs.Common.{rules, [], ◌++◌, take, inl, refl}
use Rattle.std.proofs.lemmas.Result.{err_from_is_err_and}
use Rattle.bus_calls.specs.Lines.{ended_lines}
use Rattle.bus_calls.specs.Encode.{asked_behind, asked_so_far}
use Rattle.bus_text.proofs.KnownBytesLemmas.{consumes_nothing, consumes_both, consumes_end, consumes_kept, longer}
use Rattle.bus_calls.proofs.EncodeStateLemmas.{end_finishes, halts_finishes, clean_so_far}
use Rattle.bus_calls.proofs.encode.reader.LineReader.read_to_end.Goals as goal

pub loop-turn-init : goal.loop-turn-init
loop-turn-init g c = record {
  few = search rules;
  lines = search rules;
  taken = ([], consumes_nothing _, c.requires.fresh (g.W.Write.contents c.args.w.now), search rules);
}

pub returns-in-Ok-eq0 : goal.returns-in-Ok-eq0
returns-in-Ok-eq0 g c =
    let before = c.loop-turn.invariant.taken in
    let start = g.W.Write.contents c.args.w.now in (
      before.0,
      consumes_end _ _ (g.R.Read.remaining c.read.new.self) before.0 _ (search rules) before.1
          c.in-Ok-eq0.ensures.bytes.0,
      end_finishes before.2 c.args.reads (g.R.Read.remaining c.read.new.self) _ c.end_line.new.self.encoder
          c.end_line.new.self.written c.end_line.result (search rules)
          (c.end_line.ensures.ended start (asked_behind 0 (ended_lines before.0)).calls before.2.done),
    )

pub returns-in-Err : goal.returns-in-Err
returns-in-Err g c =
    let before = c.loop-turn.invariant.taken in
    (before.0, consumes_kept _ _ _ _ before.1 c.in-Err.ensures.bytes, clean_so_far before.2)

pub returns-in_err-consume_octets : goal.returns-in_err-consume_octets
returns-in_err-consume_octets g c =
    let raised = err_from_is_err_and c.from_residual.result c.from_residual.ensures.1 in
    let before = c.loop-turn.invariant.taken in
    let start = g.W.Write.contents c.args.w.now in
    let xs = before.0 ++ take c.in-Ok.count c.read.new.buf in
    rw (raised.1, raised.2) (
      xs,
      consumes_both _ _ _ before.0 _ before.1 c.in-Ok.ensures.bytes.0,
      halts_finishes c.args.reads (g.R.Read.remaining c.read.new.self) start (g.W.Write.contents c.consume_octets.new.w)
          c.consume_octets.new.self.written xs (asked_so_far xs) c.in_err-consume_octets.field-0.0 (inl refl)
          (c.in_err-consume_octets.ensures.taken start before.0 before.2),
    )

pub loop-turn-preserved : goal.loop-turn-preserved
loop-turn-preserved g c =
    let before = c.loop-turn.invariant.taken in record {
      few = search rules;
      lines = search rules;
      taken = (
        _,
        consumes_both _ _ _ before.0 _ before.1 c.in-Ok.ensures.bytes.0,
        c.in_ok-consume_octets.ensures.taken (g.W.Write.contents c.args.w.now) before.0 before.2,
        longer before.0 c.read.new.buf c.in-Ok.count c.loop-turn._turn before.3 (search rules) (search rules),
      );
    }

pub returns : goal.returns
returns g c =
    let before = c.loop-turn.invariant.taken in
    let clean = clean_so_far before.2 in
    (before.0, before.1, (search rules, clean.0, clean.1, clean.2))
