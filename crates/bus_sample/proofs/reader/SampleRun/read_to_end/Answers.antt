use Rattle.std.proofs.Common.{◌++◌, take, [], refl, sym, ap, ◌∙◌, subst, arith, rules, length-append}
use Rattle.std.proofs.lemmas.List.{length-take-le}
use Rattle.std.proofs.lemmas.Result.{err_from_is_err_and}
use Rattle.bus_text.proofs.KnownBytesLemmas.{consumes_nothing, consumes_both, consumes_end, consumes_kept, longer}
use Rattle.bus_text.proofs.KnownBytesLemmas.{appends_nothing}
use Rattle.bus_sample.specs.Recording.{recorded}
use Rattle.bus_sample.specs.Looks.{before, HasTold, IsToldInPart}
use Rattle.bus_sample.proofs.LookLemmas.{looks-at-end, looks-before}
use Rattle.bus_sample.proofs.ReadLemmas.{halts-finishes, ends-finishes, fails-at-end, fails-within}
use Rattle.bus_sample.proofs.reader.SampleRun.read_to_end.Goals as goal

pub loop-turn-init : goal.loop-turn-init
loop-turn-init g c = record {
  few = omega arith;
  unfailed = refl;
  options = refl;
  sound = c.requires.sound;
  read = (
    [],
    consumes_nothing _,
    c.requires.fresh (g.W.Write.contents c.args.w.now),
    omega arith,
    refl,
    ([], before, appends_nothing (g.E.Write.contents c.args.e.now)),
  );
}

pub returns-in-Ok-eq0-clause-read : goal.returns-in-Ok-eq0-clause-read
returns-in-Ok-eq0-clause-read g c =
    let before = c.loop-turn.invariant.read in (
      before.0,
      consumes_end _ _ (g.R.RecordingReader.remaining c.read.new.self) before.0 _ (search rules) before.1
          c.in-Ok-eq0.ensures.octets.0,
      ends-finishes (g.R.RecordingReader.remaining c.read.new.self) (g.W.Write.contents c.args.w.now)
          (g.W.Write.contents c.loop-turn.w) c.loop-turn.self before.0 c.loop-turn.octets c.finish.result (search rules)
          before.2 before.4 c.finish.ensures,
      looks-at-end _ _ _ before.0 c.loop-turn.self c.loop-turn.octets c.finish.result c.finish.ensures before.5,
    )

pub returns-in-Err-clause-read : goal.returns-in-Err-clause-read
returns-in-Err-clause-read g c =
    let before = c.loop-turn.invariant.read in
    (before.0, consumes_kept _ _ _ _ before.1 c.in-Err.ensures.octets, before.2, before.5)

pub returns-in_err-read_buffer-clause-read : goal.returns-in_err-read_buffer-clause-read
returns-in_err-read_buffer-clause-read g c =
    let raised = err_from_is_err_and c.from_residual.result c.from_residual.ensures.1 in
    let before = c.loop-turn.invariant.read in
    let start = g.W.Write.contents c.args.w.now in
    let xs = before.0 ++ take c.in-Ok.count c.read.new.buffer in
    rw (raised.1, raised.2) (
      xs,
      consumes_both _ _ _ before.0 _ before.1 c.in-Ok.ensures.octets.0,
      halts-finishes (g.R.RecordingReader.remaining c.read.new.self) start (g.W.Write.contents c.read_buffer.new.w)
          c.read_buffer.new.self c.loop-turn.self.options.form xs c.in_err-read_buffer.field-0.0
          (ap (λ o. o.form) c.read_buffer.ensures.options)
          (c.in_err-read_buffer.ensures.read start before.0 before.2),
      looks-before c.args.self.now.options (g.E.Write.contents c.args.e.now) (g.E.Write.contents c.loop-turn.e) start
          (g.W.Write.contents c.read_buffer.new.w) c.read_buffer.new.self
          (recorded c.loop-turn.self.options.form xs) before.0 (take c.in-Ok.count c.read.new.buffer)
          c.in_err-read_buffer.field-0.0 (search rules)
          (c.in_err-read_buffer.ensures.read start before.0 before.2) before.5,
    )

pub returns-in_err-look-clause-read : goal.returns-in_err-look-clause-read
returns-in_err-look-clause-read g c =
    let from = c.from_residual-in_err-look in
    let raised = err_from_is_err_and from.result from.ensures.1 in
    let before = c.loop-turn.invariant.read in
    let xs = before.0 ++ take c.in-Ok.count c.read.new.buffer in
    let read = c.in_ok-read_buffer.ensures.read (g.W.Write.contents c.args.w.now) before.0 before.2 in
    let start = g.E.Write.contents c.args.e.now in
    let same = c.read_buffer.ensures.options ∙ c.loop-turn.invariant.options in
    let cut = c.in_err-look.ensures start before.0 (take c.in-Ok.count c.read.new.buffer) (search rules) (search rules)
    read.taken.tap (subst (λ o. HasTold o start (g.E.Write.contents c.loop-turn.e) before.0) (sym same) before.5) in
    rw (raised.1, raised.2, cut.0) (
      xs,
      consumes_both _ _ _ before.0 _ before.1 c.in-Ok.ensures.octets.0,
      read,
      subst (λ o. IsToldInPart o start (g.E.Write.contents c.look.new.e) xs) same cut.1,
    )

pub loop-turn-preserved : goal.loop-turn-preserved
loop-turn-preserved g c =
    let before = c.loop-turn.invariant.read in
    let read = c.in_ok-read_buffer.ensures.read (g.W.Write.contents c.args.w.now) before.0 before.2 in
    let start = g.E.Write.contents c.args.e.now in
    let same = c.read_buffer.ensures.options ∙ c.loop-turn.invariant.options in
    let told = c.in_ok-look.ensures start before.0 (take c.in-Ok.count c.read.new.buffer) (search rules) (search rules)
    read.taken.tap
    (subst (λ o. HasTold o start (g.E.Write.contents c.loop-turn.e) before.0) (sym same) before.5) in record {
      few = search rules;
      unfailed = c.in-Ok.ensures.same ∙ c.loop-turn.invariant.unfailed;
      options = c.read_buffer.ensures.options ∙ c.loop-turn.invariant.options;
      sound = c.read_buffer.ensures.sound;
      read = (
        _,
        consumes_both _ _ _ before.0 _ before.1 c.in-Ok.ensures.octets.0,
        read,
        longer before.0 c.read.new.buffer c.in-Ok.count c.loop-turn._turn before.3 (search rules) (search rules),
        omega (
          arith,
          before.4,
          length-append before.0 (take c.in-Ok.count c.read.new.buffer),
          length-take-le c.in-Ok.count c.read.new.buffer (search rules),
        ),
        subst (λ o. HasTold o start (g.E.Write.contents c.look.new.e)
            (before.0 ++ take c.in-Ok.count c.read.new.buffer)) same told,
      );
    }

pub returns-clause-read : goal.returns-clause-read
returns-clause-read g c =
    let before = c.loop-turn.invariant.read in (
      before.0,
      before.1,
      (
        omega (arith, before.3, c.loop-turn-test.false, ap (λ o. o.reads) c.loop-turn.invariant.options),
        before.2,
      ),
      before.5,
    )

pub returns-in-Ok-eq0-clause-failures : goal.returns-in-Ok-eq0-clause-failures
returns-in-Ok-eq0-clause-failures g c =
    fails-at-end c.loop-turn.self c.loop-turn.octets c.finish.result _ _
    (c.in-Ok-eq0.ensures.same ∙ c.loop-turn.invariant.unfailed) c.finish.ensures

pub returns-in_err-read_buffer-clause-failures : goal.returns-in_err-read_buffer-clause-failures
returns-in_err-read_buffer-clause-failures g c =
    let raised = err_from_is_err_and c.from_residual.result c.from_residual.ensures.1 in
    let before = c.loop-turn.invariant.read in
    let start = g.W.Write.contents c.args.w.now in
    rw (raised.1, raised.2) (fails-within start (g.W.Write.contents c.read_buffer.new.w) c.read_buffer.new.self
    (recorded c.loop-turn.self.options.form (before.0 ++ take c.in-Ok.count c.read.new.buffer))
    c.in_err-read_buffer.field-0.0 _ _ (c.in-Ok.ensures.same ∙ c.loop-turn.invariant.unfailed)
    (c.in_err-read_buffer.ensures.read start before.0 before.2))

pub returns-in_err-look-clause-failures : goal.returns-in_err-look-clause-failures
returns-in_err-look-clause-failures g c =
    let from = c.from_residual-in_err-look in
    let raised = err_from_is_err_and from.result from.ensures.1 in
    let before = c.loop-turn.invariant.read in
    let read = c.in_ok-read_buffer.ensures.read (g.W.Write.contents c.args.w.now) before.0 before.2 in
    let start = g.E.Write.contents c.args.e.now in
    let same = c.read_buffer.ensures.options ∙ c.loop-turn.invariant.options in
    let cut = c.in_err-look.ensures start before.0 (take c.in-Ok.count c.read.new.buffer) (search rules) (search rules)
    read.taken.tap (subst (λ o. HasTold o start (g.E.Write.contents c.loop-turn.e) before.0) (sym same) before.5) in
    rw (raised.1, raised.2, cut.0) (c.in-Ok.ensures.same ∙ c.loop-turn.invariant.unfailed)
