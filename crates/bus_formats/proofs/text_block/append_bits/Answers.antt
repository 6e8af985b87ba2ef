use Rattle.std.proofs.Common.{◌+◌, ◌-◌, ◌++◌, ℕ, List, length, take, ap, ◌∙◌, arith}
use Rattle.std.proofs.lemmas.Slice.{take-put_mid}
use Rattle.bus_formats.proofs.TextBlockLemmas.{joined-is, put-bits, rest-small}
use Rattle.bus_formats.proofs.text_block.append_bits.Goals as goal

pub returns-clause-bits : goal.returns-clause-bits
returns-clause-bits c =
    let p = c.args.packing in
    let stored =
    take-put_mid p.filled (p.filled + 8 - p.filled) c.args.block.now c.copy_from_slice.new.self (p.filled + 8)
    (omega (
      arith,
      c.copy_from_slice.ensures.len,
      ap length (c.copy_from_slice.ensures.after ∙ c.to_le_bytes-octets.ensures),
    )) (omega (arith, c.requires.room))
    ∙ ap (λ (os : List ℕ). take p.filled c.args.block.now ++ os)
    (c.copy_from_slice.ensures.after ∙ c.to_le_bytes-octets.ensures) in
    let joined = joined-is p.rest c.args.bits p.held c.args.count c.requires.rest c.requires.small
    (omega (arith, c.requires.held, c.requires.few)) in
    put-bits c.args.block.now _ p.filled p.rest c.args.bits p.held c.args.count _ stored
    (omega (arith, c.requires.room)) c.requires.rest (omega (arith, c.requires.held, c.requires.few)) joined

pub returns-clause-rest : goal.returns-clause-rest
returns-clause-rest c =
    let p = c.args.packing in
    rest-small p.rest c.args.bits p.held c.args.count _ c.requires.rest c.requires.small
    (joined-is p.rest c.args.bits p.held c.args.count c.requires.rest c.requires.small
    (omega (arith, c.requires.held, c.requires.few)))
