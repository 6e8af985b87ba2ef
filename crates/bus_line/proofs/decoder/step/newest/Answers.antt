use Rattle.std.proofs.Common.{◌≡◌, ◌%◌, ◌∙◌, ℕ, ap, arith}
use Rattle.std.specs.Prelude.{bit_and}
use Rattle.std.proofs.lemmas.Nat.{and_mask}
use Rattle.bus_line.proofs.TimeFillLemmas.{newest-behind, newest-front}
use Rattle.bus_line.proofs.decoder.step.newest.Goals as goal
use Rattle.bus_line.proofs.decoder.step.newest.Goals.{then-count-lt8, else-count-lt8}

pub returns : goal.returns
returns c =
    let x = c.if-count-lt8.newest in
    let low : bit_and x 65535 ≡ x % 65536 = and_mask x 16 in
    low ∙ elim c.if-count-lt8.branch [
      | then-count-lt8 w ↦ ap (λ (y : ℕ). y % 65536) w.newest-is
          ∙ newest-front c.args.last_bits c.args.bits c.args.count c.requires.sixteen (omega (arith, w.if-count-lt8))
      | else-count-lt8 w ↦ ap (λ (y : ℕ). y % 65536) w.newest-is
          ∙ newest-behind c.args.last_bits c.args.bits c.args.count c.requires.sixteen (omega (arith, w.if-count-lt8))
    ]
