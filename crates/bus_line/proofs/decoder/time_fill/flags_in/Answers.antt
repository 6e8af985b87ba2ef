use Rattle.std.proofs.Common.{◌≡◌, ◌/◌, ◌^◌, ◌<◌, ◌∙◌, min, arith}
use Rattle.std.specs.Int.Bits.{bit_xor}
use Rattle.std.proofs.lemmas.Nat.{xor_lt}
use Rattle.bus_bits.proofs.OctetLemmas.{least}
use Rattle.bus_line.proofs.FlagLemmas.{seven_flags, first_other, flags-below}
use Rattle.bus_line.proofs.decoder.time_fill.flags_in.Goals as goal

pub returns-clause-are : goal.returns-clause-are
returns-clause-are c =
    let x = c.args.bits in
    let found : c.min.result ≡ min (first_other x / 8) 7 = c.min.ensures ∙ least (first_other x / 8) 7 in
    let small : bit_xor x seven_flags < 2 ^ 64 = xor_lt 64 x seven_flags c.ranges.bits.fits (omega arith) in
    flags-below x c.min.result small (omega (arith, found)) (omega (arith, found))
