use Rattle.std.proofs.Common.{◌≡◌, ◌+◌, ◌*◌, ◌/◌, inl, inr, arith}
use Rattle.port1_c.proofs.PutLemmas.{copies-in, copies-then}
use Rattle.port1_c.proofs.put.put_octets.Goals as goal

pub loop-i-preserved : goal.loop-i-preserved
loop-i-preserved c =
    let i = c.loop-i.i in
    let aligned = c.requires.aligned (omega (arith, c.loop-i-test.true)) in
    let one = copies-in c.loop-i.octets c.args.source.now (c.args.at + 8 * i) (c.args.at / 8 + i) 0
    (c.args.first + 8 * i) 8 c.eight_at.result (omega (arith, aligned))
    (omega (arith, aligned, c.requires.room, c.loop-i.invariant.long, c.loop-i-test.true)) (omega arith)
    (λ j few. let here : 0 + j ≡ j = omega arith in rw here (c.eight_at.ensures j few))
    (λ j few out. elim out [
      | inl none ↦ absurd (omega (arith, none))
      | inr past ↦ absurd (omega (arith, few, past))
    ]) in
    copies-then c.args.octets.now c.loop-i.octets _ c.args.source.now c.args.at c.args.first (8 * i) 8 (8 * (i + 1))
    (omega arith) c.loop-i.invariant one
