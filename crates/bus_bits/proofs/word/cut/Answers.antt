use Rattle.std.proofs.Common.{◌≡◌, ◌*◌, ◌/◌, ◌%◌, ◌^◌, ◌-◌, ℕ, ap, ◌∙◌, arith}
use Rattle.std.specs.Prelude.{bit_and}
use Rattle.std.proofs.lemmas.Nat.{and_mask, shl_whole}
use Rattle.bus_bits.proofs.word.cut.Goals as goal

pub returns-clause-bits : goal.returns-clause-bits
returns-clause-bits c =
    let n = c.args.number / 2 ^ c.args.behind in
    let whole : 1 * 2 ^ c.args.count % 2 ^ 64 ≡ 1 * 2 ^ c.args.count =
    shl_whole 1 1 c.args.count 64 (omega arith) (omega (arith, c.requires.few)) in
    ap (λ (k : ℕ). bit_and n (k - 1)) (whole ∙ omega arith) ∙ and_mask n c.args.count
