use Rattle.std.proofs.Common.{◌*◌, ◌/◌, ◌%◌, ◌^◌, sym, ◌∙◌, arith}
use Rattle.bus_bits.proofs.OctetLemmas.{bits-low}
use Rattle.bus_bits.proofs.WordLemmas.{bits-shifted}
use Rattle.bus_bits.proofs.word.seven_octets_at.Goals as goal

pub returns : goal.returns
returns c =
    let at = c.args.at in
    let eight = c.eight_at.result in
    sym (bits-low 56 (eight / 2 ^ (at % 8))) ∙ bits-shifted eight (8 * (at / 8)) c.args.octets.now c.eight_at.ensures
    (at % 8) at 56 56 (omega arith) (omega arith) (omega arith)
