use Rattle.std.proofs.Common.{◌≡◌, ◌+◌, ap, ◌∙◌}
use Rattle.std.proofs.lemmas.Result.{err_from_is_err_and}
use Rattle.bus_calls.specs.Lines.{ended_lines}
use Rattle.bus_calls.specs.Encode.{asked_behind}
use Rattle.bus_calls.specs.declared.encode.line.OpenLine.{OpenLine}
use Rattle.bus_calls.proofs.EncodeStateLemmas.{not_lf, push_cases, lf_takes, lf_halts}
use Rattle.bus_calls.proofs.encode.reader.LineReader.consume_octet.Goals as goal

pub returns-then-octet-ne10-clause-taken : goal.returns-then-octet-ne10-clause-taken
returns-then-octet-ne10-clause-taken g c = λ start xs taken.
    push_cases taken c.push.new.self.octets.items c.push.new.self.number c.args.octet c.push.result
    (not_lf c.args.octet c.if-octet-ne10.true) c.push.new.self.fits c.push.ensures.taken

pub returns-in_err-end_line-clause-taken : goal.returns-in_err-end_line-clause-taken
returns-in_err-end_line-clause-taken g c =
    let raised = err_from_is_err_and c.from_residual.result c.from_residual.ensures.1 in
    rw (raised.1, raised.2) (λ start xs taken.
    rw c.if-octet-ne10.false
    (lf_halts taken _ c.end_line.new.self.encoder _ c.in_err-end_line.field-0.0
    (c.in_err-end_line.ensures.ended start (asked_behind 0 (ended_lines xs)).calls taken.done)))

pub returns-clause-taken : goal.returns-clause-taken
returns-clause-taken g c = λ start xs taken.
    let number : c.next.new.self.number ≡ c.args.self.now.line.number + 1 =
    c.next.ensures.1 ∙ ap (λ (l : OpenLine). l.number + 1) c.end_line.ensures.line in
    rw c.if-octet-ne10.false
    (lf_takes taken (c.in_ok-end_line.ensures.ended start (asked_behind 0 (ended_lines xs)).calls taken.done)
    c.next.ensures.0 number)
