use Rattle.bus_calls.proofs.OrderLemmas.{some_calls}
use Rattle.bus_calls.proofs.encode.bits.call_text.Goals as goal

pub returns-clause-going : goal.returns-clause-going
returns-clause-going c =
    let stands = some_calls c.args.encoder.now c.requires.going in
    (c.bits_of-bits.ensures.after stands.0 stands.1).going
