use Rattle.std.proofs.Common.{◌∙◌, ap, subst, sym, rules}
use Rattle.std.proofs.lemmas.Result.{err_from_is_err_and}
use Rattle.bus_sample.specs.Internal.Runs.{HasRead}
use Rattle.bus_sample.proofs.ReadLemmas.{all-octets, behind-next, halts-behind}
use Rattle.bus_sample.proofs.reader.SampleRun.read_samples.Goals as goal

pub read_front-requires-clause-wires : goal.read_front-requires-clause-wires
read_front-requires-clause-wires g c = sym (ap (λ o. o.wires) c.loop-at.invariant.options)

pub returns-in_err-at-clause-read : goal.returns-in_err-at-clause-read
returns-in_err-at-clause-read g c =
    let raised = err_from_is_err_and c.from_residual.result c.from_residual.ensures.1 in
    let form = ap (λ o. o.form) c.loop-at.invariant.options in
    rw (raised.1, raised.2) (λ start xs read.
    halts-behind start (g.W.Write.contents c.read_front.new.w) c.read_front.new.self
    c.args.self.now.options.form xs c.args.octets.now c.loop-at.at c.in_err-at.field-0.0 c.loop-at.invariant.within
    (rw form at (c.in_err-at.ensures.read start _ (c.loop-at.invariant.read start xs read))))

pub loop-at-preserved : goal.loop-at-preserved
loop-at-preserved g c =
    let front = c.in_ok-at.ensures in
    let new = c.read_front.new.self in record {
      within = search rules;
      read = λ start xs read.
          subst (λ l. HasRead start (g.W.Write.contents c.read_front.new.w) new l)
          (behind-next xs c.args.octets.now c.loop-at.at c.in_ok-at.field-0 c.loop-at.invariant.within)
          (front.read start _ (c.loop-at.invariant.read start xs read));
      options = front.options ∙ c.loop-at.invariant.options;
      sound = front.sound;
    }

pub returns-clause-read : goal.returns-clause-read
returns-clause-read g c = λ start xs read.
    rw (all-octets c.loop-at.at c.args.octets.now c.loop-at-test.false) at (c.loop-at.invariant.read start xs read)
