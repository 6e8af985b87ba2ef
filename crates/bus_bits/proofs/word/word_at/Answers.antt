use Rattle.std.proofs.Common.{◌≡◌, ◌-◌, ◌*◌, ◌/◌, length, min, ap, ◌∙◌, arith}
use Rattle.bus_bits.specs.Octet.{bits_of}
use Rattle.bus_bits.proofs.OctetLemmas.{least}
use Rattle.bus_bits.proofs.WordLemmas.{bits-shifted}
use Rattle.bus_bits.proofs.word.word_at.Goals as goal

pub returns-then-octets-lt8-clause-bits : goal.returns-then-octets-lt8-clause-bits
returns-then-octets-lt8-clause-bits c m fewer =
    let count : c.min-count.result ≡ min (c.args.end - c.args.at) 48 =
    c.min-count.ensures ∙ least (c.args.end - c.args.at) 48 in
    ap (bits_of m) c.cut.ensures.bits
    ∙ bits-shifted c.few.result 0 c.args.octets.now c.few.ensures c.args.at c.args.at c.min-count.result m (omega arith)
    (omega (arith, count, c.requires.some, c.requires.within, c.if-octets-lt8.true))
    (omega (arith, fewer, c.cut.ensures.count))

pub returns-clause-bits : goal.returns-clause-bits
returns-clause-bits c m fewer =
    let from : c.min-from.result ≡ min (c.args.at / 8) (length c.args.octets.now - 8) =
    c.min-from.ensures ∙ least (c.args.at / 8) (length c.args.octets.now - 8) in
    let count : c.min-count.result ≡ min (c.args.end - c.args.at) 48 =
    c.min-count.ensures ∙ least (c.args.end - c.args.at) 48 in
    ap (bits_of m) c.cut-2.ensures.bits
    ∙ bits-shifted c.eight_at.result (8 * c.min-from.result) c.args.octets.now c.eight_at.ensures
    (c.args.at - 8 * c.min-from.result) c.args.at c.min-count.result m
    (omega (arith, from)) (omega (arith, from, count, c.requires.some, c.requires.within, c.if-octets-lt8.false))
    (omega (arith, fewer, c.cut-2.ensures.count))

pub returns-then-octets-lt8-clause-count : goal.returns-then-octets-lt8-clause-count
returns-then-octets-lt8-clause-count c =
    c.cut.ensures.count ∙ c.min-count.ensures ∙ least (c.args.end - c.args.at) 48

pub returns-clause-count : goal.returns-clause-count
returns-clause-count c = c.cut-2.ensures.count ∙ c.min-count.ensures ∙ least (c.args.end - c.args.at) 48
