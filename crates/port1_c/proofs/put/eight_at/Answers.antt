use Rattle.std.proofs.Common.{arith}
use Rattle.port1_c.proofs.PutLemmas.{eight-of}
use Rattle.port1_c.proofs.put.eight_at.Goals as goal

pub returns : goal.returns
returns c i few =
    eight-of c.args.octets.now c.args.at c.from_le_bytes-two.result c.requires (λ j. omega (arith, c.type_inv.octets j))
    c.from_le_bytes-two.ensures i few
