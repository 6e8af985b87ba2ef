use Rattle.std.proofs.Common.{◌∙◌, sym, arith}
use Rattle.std.proofs.lemmas.Nat.Bits.{bit_at-zero, bit_at_above}
use Rattle.bus_tap.proofs.OnesLemmas.{no-bit}
use Rattle.bus_tap.proofs.wires.bits.Goals as goal

pub returns-then-at-ge8 : goal.returns-then-at-ge8
returns-then-at-ge8 g c = λ i inside.
    no-bit 0 i (bit_at-zero i)
    ∙ sym (no-bit _ c.args.at (bit_at_above _ 8 c.args.at (omega (arith, c.type_inv.octets i)) c.if-at-ge8.true))
