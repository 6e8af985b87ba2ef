use Rattle.std.proofs.Common.{rules, arith, ◌++◌, take, ◌∙◌, ap, sym, subst, Bool}
use Rattle.std.proofs.lemmas.Result.{err_from_is_err_and}
use Rattle.bus_calls.specs.Internal.Watching.{IsSound, lines}
use Rattle.bus_calls.specs.Internal.Sessions.{SourceAfter, is_text, capture_so_far}
use Rattle.bus_calls.specs.Internal.Reading.{IsClean, ReadStopsWith, octets_taken}
use Rattle.bus_calls.specs.declared.run.CaptureRun.{CaptureRun}
use Rattle.bus_text.proofs.KnownBytesLemmas.{consumes_both, consumes_end, consumes_kept, longer}
use Rattle.bus_calls.proofs.WatchingLemmas.{same-both}
use Rattle.bus_text.proofs.PagesLemmas.{cut-short}
use Rattle.bus_calls.proofs.ReadingLemmas.{follows-unplaced, read-by, turned, source-clean, is-cut, sound-written}
use Rattle.bus_calls.proofs.ReadingLemmas.{same-written, end-finishes, stops-finishes}
use Rattle.bus_calls.proofs.reader.CaptureReader.read_to_end.Given.{Over}
use Rattle.bus_calls.proofs.reader.CaptureReader.read_to_end.Goals as goal
use Rattle.bus_calls.proofs.reader.CaptureReader.read_to_end.Goals.{After-read, in-Text+in_ok-analyse-in-Text}
use Rattle.bus_calls.proofs.reader.CaptureReader.read_to_end.Goals.{in-Packed+in_ok-analyse-in-Packed}

-- the run once its page has been written
abbrev written : (g : Over) (c : After-read g) → CaptureRun g.row.T.Denot
written g c =
    record c.loop-turn.self.run { reporter = record c.loop-turn.self.run.reporter { page = c.write_out.new.self } }

-- it has followed still what was read before
followed : (g : Over) (c : After-read g) → SourceAfter g.T.CaptureKind.kind (g.W.Write.contents c.args.w.now)
    (g.W.Write.contents c.write_out.new.w) c.loop-turn.self.source (written g c) c.loop-turn.invariant.taken.0
followed g c =
    turned g.T.CaptureKind.kind _ _ _ c.loop-turn.self.source c.loop-turn.self.run c.write_out.new.self
    c.loop-turn.invariant.taken.0 (c.in_ok-write_out.ensures.turned (g.W.Write.contents c.args.w.now))
    c.loop-turn.invariant.taken.2

sound : (g : Over) (c : After-read g) → IsSound g.T.CaptureKind.kind (written g c)
sound g c =
    sound-written c.write_out.new.self c.in_ok-write_out.ensures.empty c.in_ok-write_out.ensures.sum
    c.loop-turn.invariant.sound

pub returns-in_err-write_out-clause-read : goal.returns-in_err-write_out-clause-read
returns-in_err-write_out-clause-read g c =
    let failed = err_from_is_err_and c.from_residual.result c.from_residual.ensures.1 in
    let kind = g.T.CaptureKind.kind in
    let before = c.loop-turn.invariant.taken in
    let start = g.W.Write.contents c.args.w.now in
    let run = c.loop-turn.self.run in
    let text = is_text c.args.self.now.source in
    let here : IsClean kind text start (g.W.Write.contents c.loop-turn.w) run before.0 =
    source-clean c.laws.ensures c.loop-turn.self.source c.loop-turn.invariant.text c.loop-turn.invariant.sound
    before.2 in
    let bits = (capture_so_far kind text run before.0).bits in
    rw (failed.1, failed.2) (
      before.0,
      before.1,
      is-cut kind start _ (record run { reporter = record run.reporter { page = c.write_out.new.self } }) bits _
          (c.in_err-write_out.ensures.turned start (lines kind run bits) here.bits.page)
          (cut-short start _ _ _ (lines kind run bits) _ here.bits.page c.in_err-write_out.ensures.short),
    )

pub returns-in-Ok-eq0-clause-read : goal.returns-in-Ok-eq0-clause-read
returns-in-Ok-eq0-clause-read g c =
    let at = (goal.at.returns-in-Ok-eq0-clause-read g c).After-read in
    let kind = g.T.CaptureKind.kind in
    let before = c.loop-turn.invariant.taken in
    let start = g.W.Write.contents c.args.w.now in
    let now = g.W.Write.contents c.write_out.new.w in
    let source = c.loop-turn.self.source in
    let after = g.R.Read.remaining c.read.new.self in
    let ends = end-finishes kind c.laws.ensures (is_text source) c.args.reads after start now (written g at) before.0
    c.finish.result (sound g at) (search rules)
    (follows-unplaced kind start now source (written g at) before.0 c.laws.ensures (followed g at))
    (c.finish.ensures before.0 (read-by kind start now source (written g at) before.0 (followed g at))) in (
      before.0,
      consumes_end _ _ after before.0 _ (search rules) before.1 c.in-Ok-eq0.ensures.bytes.0,
      subst (λ (b : Bool). ReadStopsWith kind b c.args.reads after start now (written g at) before.0 c.finish.result)
          c.loop-turn.invariant.text ends,
    )

pub returns-in-Err-clause-read : goal.returns-in-Err-clause-read
returns-in-Err-clause-read g c =
    let at = (goal.at.returns-in-Err-clause-read g c).After-read in
    let before = c.loop-turn.invariant.taken in (
      before.0,
      consumes_kept _ _ _ _ before.1 c.in-Err.ensures.bytes,
      source-clean c.laws.ensures c.loop-turn.self.source c.loop-turn.invariant.text (sound g at) (followed g at),
    )

pub returns-in_err-analyse-in-Text-clause-read : goal.returns-in_err-analyse-in-Text-clause-read
returns-in_err-analyse-in-Text-clause-read g c =
    let failed = err_from_is_err_and c.from_residual-in_err-analyse-in-Text.result
    c.from_residual-in_err-analyse-in-Text.ensures.1 in
    let before = c.loop-turn.invariant.taken in
    let start = g.W.Write.contents c.args.w.now in
    let here = followed g (goal.at.returns-in_err-analyse-in-Text-clause-read g c).After-read in
    rw (failed.1, failed.2) (
      before.0 ++ take c.in-Ok.count c.read.new.buf,
      consumes_both _ _ _ before.0 _ before.1 c.in-Ok.ensures.bytes.0,
      stops-finishes g.T.CaptureKind.kind c.args.reads _ start _ c.analyse.new.run _ _
          (ap is_text (sym c.in-Text.is) ∙ c.loop-turn.invariant.text)
          (c.in_err-analyse-in-Text.ensures.taken start before.0 (rw c.in-Text.is at here)),
    )

pub returns-in_err-analyse-in-Packed-clause-read : goal.returns-in_err-analyse-in-Packed-clause-read
returns-in_err-analyse-in-Packed-clause-read g c =
    let failed = err_from_is_err_and c.from_residual-in_err-analyse-in-Packed.result
    c.from_residual-in_err-analyse-in-Packed.ensures.1 in
    let before = c.loop-turn.invariant.taken in
    let start = g.W.Write.contents c.args.w.now in
    let here = followed g (goal.at.returns-in_err-analyse-in-Packed-clause-read g c).After-read in
    rw (failed.1, failed.2) (
      before.0 ++ take c.in-Ok.count c.read.new.buf,
      consumes_both _ _ _ before.0 _ before.1 c.in-Ok.ensures.bytes.0,
      stops-finishes g.T.CaptureKind.kind c.args.reads _ start _ c.analyse-in-Packed.new.run _ _
          (ap is_text (sym c.in-Packed.is) ∙ c.loop-turn.invariant.text)
          (c.in_err-analyse-in-Packed.ensures.taken start before.0 (rw c.in-Packed.is at here)),
    )

pub loop-turn-preserved : goal.loop-turn-preserved
loop-turn-preserved g c =
    let before = c.loop-turn.invariant.taken in
    let start = g.W.Write.contents c.args.w.now in
    let same = same-written c.write_out.new.self c.loop-turn.invariant.same in
    let here = followed g (goal.at.loop-turn-preserved g c).After-read in
    let read = consumes_both _ _ _ before.0 _ before.1 c.in-Ok.ensures.bytes.0 in
    let long = longer before.0 c.read.new.buf c.in-Ok.count c.loop-turn._turn before.3 (search rules) (search rules) in
    let few = c.loop-turn.invariant.few in
    elim c.match-self.branch [
      | in-Text+in_ok-analyse-in-Text w ↦ rw (w.self-is, w.w-is) (record {
        sound = w.analyse.ensures.sound;
        same = same-both same w.analyse.ensures.same;
        text = ap is_text (sym w.in-Text.is) ∙ c.loop-turn.invariant.text;
        few = let at = w.in_ok-analyse-in-Text.ensures.at in let had = ap octets_taken w.in-Text.is in search rules;
        taken = (
          _,
          read,
          w.in_ok-analyse-in-Text.ensures.taken start before.0 (rw w.in-Text.is at here),
          long,
        );
      })
      | in-Packed+in_ok-analyse-in-Packed w ↦ rw (w.self-is, w.w-is) (record {
        sound = w.analyse-in-Packed.ensures.sound;
        same = same-both same w.analyse-in-Packed.ensures.same;
        text = ap is_text (sym w.in-Packed.is) ∙ c.loop-turn.invariant.text;
        few = omega arith;
        taken = (
          _,
          read,
          w.in_ok-analyse-in-Packed.ensures.taken start before.0 (rw w.in-Packed.is at here),
          long,
        );
      })
    ]

pub returns-clause-read : goal.returns-clause-read
returns-clause-read g c =
    let before = c.loop-turn.invariant.taken in (
      before.0,
      before.1,
      (
        omega (arith, before.3, c.loop-turn-test.false),
        source-clean c.laws.ensures c.loop-turn.self.source c.loop-turn.invariant.text c.loop-turn.invariant.sound
            before.2,
      ),
    )
