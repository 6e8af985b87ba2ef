use Rattle.std.proofs.Common.{Ok, Err, slice_index}
use Rattle.std.proofs.lemmas.Result.{err_from_is_err_and}
use Rattle.bus_sample.specs.Recording.{recorded}
use Rattle.bus_sample.proofs.ReadLemmas.{halts-front, samples-read}
use Rattle.bus_sample.proofs.reader.SampleRun.read_front.Goals as goal

pub returns-in_err-put_block-clause-read : goal.returns-in_err-put_block-clause-read
returns-in_err-put_block-clause-read g c =
    let raised = err_from_is_err_and c.from_residual.result c.from_residual.ensures.1 in
    let self = c.args.self.now in
    let form = self.options.form in
    let now = g.W.Write.contents c.put_block.new.w in
    let new = c.put_block.new.self in
    let fault = c.in_err-put_block.field-0.0 in
    rw (raised.1, raised.2) (λ start xs read.
    let halts = samples-read start now self new xs c.in-Some.block.now (Err fault) c.requires.form
    c.put_block.ensures.same read.part (c.in_err-put_block.ensures.taken start (recorded form xs) read.taken) in
    halts-front start now new form xs c.args.octets.now 64 fault c.requires.sound.size.0
    (rw (c.in-Some.ensures.cases.same) at halts))

pub returns-in-Some-clause-read : goal.returns-in-Some-clause-read
returns-in-Some-clause-read g c = λ start xs read.
    let self = c.args.self.now in
    let now = g.W.Write.contents c.put_block.new.w in
    rw (c.in-Some.ensures.cases.same) at
    (samples-read start now self c.put_block.new.self xs c.in-Some.block.now (Ok c.in_ok-put_block.field-0)
    c.requires.form c.put_block.ensures.same read.part
    (c.in_ok-put_block.ensures.taken start (recorded self.options.form xs) read.taken))

pub returns-in_err-put_run-clause-read : goal.returns-in_err-put_run-clause-read
returns-in_err-put_run-clause-read g c =
    let from = c.from_residual-in_err-put_run in
    let raised = err_from_is_err_and from.result from.ensures.1 in
    let self = c.args.self.now in
    let form = self.options.form in
    let now = g.W.Write.contents c.put_run.new.w in
    let new = c.put_run.new.self in
    let fault = c.in_err-put_run.field-0.0 in
    let x = slice_index c.args.octets.now 0 in
    rw (raised.1, raised.2) (λ start xs read.
    let halts = samples-read start now self new xs _ (Err fault) c.requires.form c.put_run.ensures.same read.part
    (c.in_err-put_run.ensures.taken x (rw (c.from.ensures) (c.requires.sound.levels x (c.type_inv.octets 0).fits)) start
    (recorded form xs) read.taken) in
    halts-front start now new form xs c.args.octets.now c.alike-count.result fault c.requires.sound.size.0
    (rw (← c.alike-count.ensures.same) at halts))

pub returns-clause-read : goal.returns-clause-read
returns-clause-read g c = λ start xs read.
    let self = c.args.self.now in
    let now = g.W.Write.contents c.put_run.new.w in
    let x = slice_index c.args.octets.now 0 in
    rw (← c.alike-count.ensures.same) at
    (samples-read start now self c.put_run.new.self xs _ (Ok c.in_ok-put_run.field-0) c.requires.form
    c.put_run.ensures.same read.part
    (c.in_ok-put_run.ensures.taken x (rw (c.from.ensures) (c.requires.sound.levels x (c.type_inv.octets 0).fits)) start
    (recorded self.options.form xs) read.taken))
