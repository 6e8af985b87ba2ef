use Rattle.std.proofs.Common.{◌++◌, take, rules}
use Rattle.std.proofs.lemmas.Result.{err_from_is_err_and}
use Rattle.std.proofs.lemmas.List.{take_all}
use Rattle.bus_calls.proofs.EncodeStateLemmas.{middle_halts}
use Rattle.bus_calls.proofs.encode.reader.LineReader.consume_octets.Goals as goal

pub returns-in_err-consume_octet-clause-taken : goal.returns-in_err-consume_octet-clause-taken
returns-in_err-consume_octet-clause-taken g c =
    let raised = err_from_is_err_and c.from_residual.result c.from_residual.ensures.1 in
    rw (raised.1, raised.2) (λ start xs taken.
    middle_halts start (g.W.Write.contents c.consume_octet.new.w) c.consume_octet.new.self.written _
    c.loop-octet.octet-index xs
    c.args.octets.now c.in_err-consume_octet.field-0.0 c.loop-octet-test.true (search rules)
    (c.in_err-consume_octet.ensures.taken start (xs ++ take c.loop-octet.octet-index c.args.octets.now)
    (c.loop-octet.invariant.taken start xs taken)))

pub returns-clause-taken : goal.returns-clause-taken
returns-clause-taken g c = λ start xs taken.
    rw (take_all c.loop-octet.octet-index c.args.octets.now c.loop-octet-test.false) at
    (c.loop-octet.invariant.taken start xs taken)
