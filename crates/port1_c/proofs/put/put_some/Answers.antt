use Rattle.std.proofs.Common.{◌/◌, ◌%◌, ◌==◌, ℕ, ap, ◌∙◌, arith}
use Rattle.port1_c.proofs.PutLemmas.{copies-in}
use Rattle.port1_c.proofs.put.put_some.Goals as goal

pub returns : goal.returns
returns c =
    copies-in c.args.octets.now c.args.source.now c.args.at (c.args.at / 8) (c.args.at % 8) c.args.first c.args.count
    c.with_bits.result (omega arith) (omega (arith, c.requires.room, c.if-count-eq0.false)) c.requires.one
    (λ i few. ap (λ (b : ℕ). b == 1) (c.with_bits.ensures.put i few)
    ∙ c.eight_at-bits.ensures i (omega (arith, few, c.requires.one)))
    (λ i few out. c.with_bits.ensures.kept i few out)
