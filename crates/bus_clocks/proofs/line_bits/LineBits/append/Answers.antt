use Rattle.std.proofs.Common.{◌≡◌, ◌+◌, ◌*◌, ◌/◌, ◌%◌, ◌≤◌, length, refl, ap, ◌∙◌, arith}
use Rattle.bus_bits.proofs.BitLemmas.{length-from}
use Rattle.bus_clocks.proofs.LineBitsLemmas.{bits-appended, length-stored}
use Rattle.bus_clocks.proofs.line_bits.LineBits.append.Goals as goal

pub invariant_of-self : goal.invariant_of-self
invariant_of-self c =
    let os = c.self.inside.octets in
    let n = c.self.inside.count in
    let few : n + c.args.count ≤ 512 = omega (arith, c.requires.room, length-from os 0 n, ap length c.self.view_is) in
    record {
      long = length-stored os c.copy_from_slice.new.self (n / 8)
          (omega (arith, ap length (c.copy_from_slice.ensures.after ∙ c.to_le_bytes.ensures)))
          (omega (arith, few, c.self.invariant.long)) ∙ c.self.invariant.long;
      few = few;
    }

pub returns : goal.returns
returns c =
    let os = c.self.inside.octets in
    let n = c.self.inside.count in
    let few : n + c.args.count ≤ 512 = omega (arith, c.requires.room, length-from os 0 n, ap length c.self.view_is) in
    let here : 8 * (n / 8) + n % 8 ≡ n = omega arith in
    rw (← c.self.view_is, c.copy_from_slice.ensures.after, c.to_le_bytes.ensures, c.from.ensures)
    (rw here at (bits-appended os (n / 8) (n % 8) c.args.count c.args.bits _ _
    (omega (arith, few, c.self.invariant.long))
    (omega arith) (omega (arith, c.requires.few)) c.requires.small refl refl))
