use Rattle.std.proofs.Common.{◌≡◌, ◌-◌, refl, ◌∙◌, arith}
use Rattle.std.proofs.lemmas.Result.{err_from_is_err_and}
use Rattle.bus_sample.proofs.RunLemmas.{run-on, run-all, run-none}
use Rattle.bus_sample.proofs.reader.SampleRun.put_run.Goals as goal

pub loop-left-init : goal.loop-left-init
loop-left-init g c = record {
  within = omega arith;
  taken = λ sample is start ss taken. rw (run-none ss c.args.count sample) taken;
  same = (refl, refl);
  sound = c.requires;
}

pub returns-in_err-left-clause-taken : goal.returns-in_err-left-clause-taken
returns-in_err-left-clause-taken g c =
    let raised = err_from_is_err_and c.from_residual.result c.from_residual.ensures.1 in
    rw (raised.1, raised.2) (λ sample is start ss taken.
    rw (run-all ss c.args.count c.loop-left.left sample c.loop-left.invariant.within)
    (c.in_err-left.ensures.taken sample (rw (c.loop-left.invariant.same.1) is) start _
    (c.loop-left.invariant.taken sample is start ss taken)))

pub loop-left-preserved : goal.loop-left-preserved
loop-left-preserved g c =
    let n = c.in_ok-left.field-0 in
    let same = c.put_some.ensures.same in
    let before = c.loop-left.invariant.same in record {
      within = omega (arith, c.loop-left.invariant.within);
      taken = λ sample is start ss taken.
          rw (run-on ss c.args.count c.loop-left.left n sample c.loop-left.invariant.within
          c.in_ok-left.ensures.count.1)
          (c.in_ok-left.ensures.taken sample (rw (before.1) is) start _
          (c.loop-left.invariant.taken sample is start ss taken));
      same = (same.0 ∙ before.0, same.1 ∙ before.1);
      sound = c.put_some.ensures.sound;
    }

pub returns-clause-taken : goal.returns-clause-taken
returns-clause-taken g c =
    let all : c.args.count - c.loop-left.left ≡ c.args.count = omega (arith, c.loop-left-test.false) in
    λ sample is start ss taken. rw all at (c.loop-left.invariant.taken sample is start ss taken)
