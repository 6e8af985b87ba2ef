use Rattle.std.proofs.Common.{[], ◌∷◌, refl, ◌∙◌, arith}
use Rattle.bus_line.specs.Line.{Frame}
use Rattle.port1_c.proofs.SendLemmas.{follows-on, has-flag, frame-count, frame-gains, sends-all, sends-none}
use Rattle.port1_c.proofs.send.port1_send_frame.Goals as goal

pub put-status-requires-clause-order : goal.put-status-requires-clause-order
put-status-requires-clause-order c =
    let b = c.spell_frame in
    omega (arith, c.first_bit-first.ensures.few, has-flag c.args.frame.now b.new.bits.octets b.new.bits.count b.ensures)

pub returns-then-status-eq-OK-clause-sends : goal.returns-then-status-eq-OK-clause-sends
returns-then-status-eq-OK-clause-sends c =
    let done = c.if-status-eq-OK.true in
    let put = c.put-status in
    let b = c.spell_frame in
    let f = c.first_bit-first in
    sends-all (Frame c.args.frame.now ∷ []) put.result _ _
    (omega (arith, c.if-at-saturating_mul.false, c.saturating_mul.ensures)) c.if-sender-gt1.false put.ensures.room
    (λ calls follows. put.ensures.told
    ∙ frame-count c.args.frame.now b.new.bits.octets b.new.bits.count b.ensures c.args.sender.now calls f.result follows
    f.ensures.flag f.ensures.none) done (put.ensures.at done)
    (frame-gains c.args.frame.now b.new.bits.octets b.new.bits.count b.ensures c.args.sender.now c.args.octets.now
    put.new.octets c.args.at.now f.result f.ensures.flag f.ensures.none (put.ensures.puts done))
    (λ calls follows. follows-on (record { behind_flag = 1 }) calls (Frame c.args.frame.now) refl)

pub returns-else-status-eq-OK-clause-sends : goal.returns-else-status-eq-OK-clause-sends
returns-else-status-eq-OK-clause-sends c =
    let put = c.put-status in
    let b = c.spell_frame in
    let f = c.first_bit-first in
    sends-none (Frame c.args.frame.now ∷ []) put.result _ _
    (omega (arith, c.if-at-saturating_mul.false, c.saturating_mul.ensures)) c.if-sender-gt1.false put.ensures.room
    (λ calls follows. put.ensures.told
    ∙ frame-count c.args.frame.now b.new.bits.octets b.new.bits.count b.ensures c.args.sender.now calls f.result follows
    f.ensures.flag f.ensures.none) put.ensures.status c.if-status-eq-OK.false refl
    (put.ensures.kept c.if-status-eq-OK.false)
