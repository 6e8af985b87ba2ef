use Rattle.std.proofs.Common.{◌∙◌, ap, rules}
use Rattle.std.proofs.lemmas.Result.{err_from_is_err_and}
use Rattle.bus_sample.proofs.ReadLemmas.{halts-at, read-next, all-octets}
use Rattle.bus_sample.proofs.reader.SampleRun.read_octets.Goals as goal

pub returns-in_err-read_octet-clause-read : goal.returns-in_err-read_octet-clause-read
returns-in_err-read_octet-clause-read g c =
    let raised = err_from_is_err_and c.from_residual.result c.from_residual.ensures.1 in
    let form = ap (λ o. o.form) c.loop-octet.invariant.options in
    rw (raised.1, raised.2) (λ start xs read.
    halts-at start (g.W.Write.contents c.read_octet.new.w) c.read_octet.new.self c.args.self.now.options.form xs
    c.args.octets.now c.loop-octet.octet-index _ c.in_err-read_octet.field-0.0 c.requires.sound.size.0
    c.loop-octet-test.true (search rules)
    (rw form at (c.in_err-read_octet.ensures.read start _ (c.loop-octet.invariant.read start xs read))))

pub loop-octet-preserved : goal.loop-octet-preserved
loop-octet-preserved g c = record {
  read = λ start xs read.
      read-next start (g.W.Write.contents c.read_octet.new.w) c.read_octet.new.self xs c.args.octets.now
      c.loop-octet.octet-index _
      (c.in_ok-read_octet.ensures.read start _ (c.loop-octet.invariant.read start xs read))
      c.loop-octet-test.true (search rules);
  options = c.read_octet.ensures.options ∙ c.loop-octet.invariant.options;
  sound = c.read_octet.ensures.sound;
}

pub returns-clause-read : goal.returns-clause-read
returns-clause-read g c = λ start xs read.
    rw (all-octets c.loop-octet.octet-index c.args.octets.now c.loop-octet-test.false) at
    (c.loop-octet.invariant.read start xs read)
