use Rattle.std.proofs.Common.{ap, ◌∙◌, arith}
use Rattle.bus_bits.specs.Octet.{bits_of}
use Rattle.bus_bits.proofs.WordLemmas.{bits-eight}
use Rattle.bus_bits.proofs.word.eight_at.Goals as goal

pub returns : goal.returns
returns c = ap (bits_of 64) c.from_le_bytes.ensures
    ∙ bits-eight c.args.octets.now c.args.from (λ i. omega (arith, c.type_inv.octets i))
