use Rattle.std.proofs.Common.{ap, ◌∙◌, arith}
use Rattle.bus_bits.specs.Octet.{bits_of}
use Rattle.bus_bits.proofs.WordLemmas.{bits-first}
use Rattle.bus_bits.proofs.word.eight_at_most.Goals as goal

pub returns : goal.returns
returns c =
    ap (bits_of 64) c.from_le_bytes.ensures
    ∙ bits-first c.args.octets.now c.octet_or_zero.result c.octet_or_zero-2.result c.octet_or_zero-3.result
    c.octet_or_zero-4.result c.octet_or_zero-5.result c.octet_or_zero-6.result
    c.octet_or_zero-7.result c.octet_or_zero-8.result c.octet_or_zero.ensures c.octet_or_zero-2.ensures
    c.octet_or_zero-3.ensures c.octet_or_zero-4.ensures c.octet_or_zero-5.ensures
    c.octet_or_zero-6.ensures c.octet_or_zero-7.ensures c.octet_or_zero-8.ensures
    (λ i. omega (arith, c.type_inv.octets i))
