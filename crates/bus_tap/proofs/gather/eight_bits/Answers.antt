use Rattle.std.proofs.Common.{ℕ, ◌<◌, slice_index, arith}
use Rattle.bus_bits.proofs.WordLemmas.{eight-is}
use Rattle.bus_tap.proofs.WireLemmas.{eight-bits}
use Rattle.bus_tap.proofs.gather.eight_bits.Goals as goal

pub returns-clause-bits : goal.returns-clause-bits
returns-clause-bits c = λ i inside.
    let small : (k : ℕ) → slice_index c.args.octets.now k < 256 = λ k. omega (arith, c.type_inv.octets k) in
    rw (eight-is c.args.octets.now c.args.from c.eight_at.result small c.eight_at.type_inv c.eight_at.ensures)
    (eight-bits c.args.octets.now c.args.from c.args.at i small c.requires.at inside)
