use Rattle.std.proofs.Common.{[], ◌∷◌, refl, arith}
use Rattle.bus_line.specs.Line.{Idle}
use Rattle.port1_c.proofs.SendLemmas.{follows-on, idle-gains, sends-all}
use Rattle.port1_c.proofs.send.port1_send_idle.Goals as goal

pub returns-then-status-eq-OK-clause-sends : goal.returns-then-status-eq-OK-clause-sends
returns-then-status-eq-OK-clause-sends c =
    let done = c.if-status-eq-OK.true in
    let put = c.put-status in
    sends-all (Idle ∷ []) put.result _ _ (omega (arith, c.if-at-saturating_mul.false, c.saturating_mul.ensures))
    c.if-sender-gt1.false put.ensures.room (λ calls follows. omega (arith, put.ensures.told)) done (put.ensures.at done)
    (idle-gains c.args.sender.now c.args.octets.now put.new.octets c.args.at.now (put.ensures.puts done))
    (λ calls follows. follows-on (record { behind_flag = 0 }) calls Idle refl)
