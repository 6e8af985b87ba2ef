use Rattle.std.proofs.Common.{ap}
use Rattle.std.specs.Prelude.{if◌then◌else◌, Some, None}
use Rattle.bus_tap.specs.Blocks.{has_bit}
use Rattle.bus_tap.proofs.OnesLemmas.{bit-rose}
use Rattle.bus_tap.proofs.block.CountedLine.edges.Goals as goal

pub returns : goal.returns
returns c = λ i inside.
    let line = c.args.self in
    ap (λ b. if b then Some (has_bit line.before.bits i) else None) (bit-rose line.before.clock line.after.clock i)
