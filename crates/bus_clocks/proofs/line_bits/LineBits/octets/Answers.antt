use Rattle.std.proofs.Common.{◌≡◌, length, sym, ap, ◌∙◌, arith}
use Rattle.bus_bits.proofs.BitLemmas.{length-from}
use Rattle.bus_clocks.proofs.line_bits.LineBits.octets.Goals as goal

pub returns-clause-bits : goal.returns-clause-bits
returns-clause-bits c =
    let count : length c.args.self.now ≡ c.self.inside.count =
    sym (ap length c.self.view_is) ∙ length-from c.self.inside.octets 0 c.self.inside.count in
    rw count c.self.view_is

pub returns-clause-enough : goal.returns-clause-enough
returns-clause-enough c =
    let count : length c.args.self.now ≡ c.self.inside.count =
    sym (ap length c.self.view_is) ∙ length-from c.self.inside.octets 0 c.self.inside.count in
    omega (arith, count, c.self.invariant.few, c.self.invariant.long)
