use Rattle.std.proofs.Common.{◌≤◌, ◌*◌, ◌-◌, ◌%◌, length, inl, inr, refl, arith}
use Rattle.port1_c.proofs.SendLemmas.{follows-idles, follows-no-idles, idles-count, idles-gain, sends-all, sends-none}
use Rattle.port1_c.specs.Send.{idles}
use Rattle.port1_c.proofs.send.port1_send_align.Goals as goal

pub returns-then-idles-gt0-clause-sends : goal.returns-then-idles-gt0-clause-sends
returns-then-idles-gt0-clause-sends c =
    let done = c.if-status-eq-OK.true in
    let put = c.put-status in
    let count = c.args.at.now % 8 in
    sends-all (idles count) put.result _ _ (omega (arith, c.if-at-saturating_mul.false, c.saturating_mul.ensures))
    c.if-sender-gt1.false put.ensures.room
    (idles-count c.args.sender.now count put.new.bits (omega arith) (omega (arith, put.ensures.told))) done
    (put.ensures.at done)
    (idles-gain c.args.sender.now c.args.octets.now put.new.octets c.args.at.now count (15 * count - 0)
    (omega arith) (omega arith) (put.ensures.puts done))
    (λ calls follows. follows-idles (record { behind_flag = 0 }) calls count c.if-idles-gt0.true refl)

pub returns-else-status-eq-OK-clause-sends : goal.returns-else-status-eq-OK-clause-sends
returns-else-status-eq-OK-clause-sends c =
    let put = c.put-status in
    let count = c.args.at.now % 8 in
    let inside : c.args.at.now ≤ 8 * length c.args.octets.now =
    omega (arith, c.if-at-saturating_mul.false, c.saturating_mul.ensures) in
    let told = idles-count c.args.sender.now count put.new.bits (omega arith) (omega (arith, put.ensures.told)) in
    elim c.else-status-eq-OK.either [
      | inl none ↦
          sends-all (idles count) put.result _ _ inside c.if-sender-gt1.false put.ensures.room told none.0
          (put.ensures.at none.0)
          (idles-gain c.args.sender.now c.args.octets.now put.new.octets c.args.at.now count (15 * count - 0)
          (omega arith) (omega arith) (put.ensures.puts none.0))
          (λ calls follows. follows-no-idles c.args.sender.now calls count (omega (arith, none.1)) follows)
      | inr refused ↦
          sends-none (idles count) put.result _ _ inside c.if-sender-gt1.false put.ensures.room told
          put.ensures.status refused refl (put.ensures.kept refused)
    ]
