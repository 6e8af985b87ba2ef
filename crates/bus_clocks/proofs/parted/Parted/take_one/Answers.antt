use Rattle.std.proofs.Common.{◌++◌, length, refl, ap, ◌∙◌, arith}
use Rattle.bus_bits.proofs.OctetLemmas.{one_bit}
use Rattle.bus_line.specs.declared.line.Line.TheVariants.{First, Second}
use Rattle.bus_clocks.proofs.PartsLemmas.{parts-first, parts-second}
use Rattle.bus_clocks.proofs.RoomLemmas.{own-count}
use Rattle.bus_clocks.proofs.parted.Parted.take_one.Goals as goal

pub bounds-self-count : goal.bounds-self-count
bounds-self-count c = omega (
  arith,
  c.count-then-is_second.ensures.value,
  ap length c.requires.1.second,
  own-count c.requires.0,
  c.requires.2,
)

pub append-requires-clause-room : goal.append-requires-clause-room
append-requires-clause-room c =
    omega (arith, ap length c.requires.1.second, own-count c.requires.0, c.requires.2)

pub append-requires-else-is_second-clause-room : goal.append-requires-else-is_second-clause-room
append-requires-else-is_second-clause-room c =
    omega (arith, ap length c.requires.1.first, own-count c.requires.0, c.requires.2)

pub returns-then-is_second : goal.returns-then-is_second
returns-then-is_second c = λ xs parts room.
    rw (c.if-is_second.true)
    (parts-second xs c.args.self.now (Second, c.args.bit) c.append.new.self c.count-then-is_second.result c.count.result
    refl room parts c.count-then-is_second.ensures.value c.count.ensures.value
    (c.append.ensures ∙ ap (λ b. c.args.self.now.second ++ b)
    (one_bit c.from.result 1 c.args.bit c.from.ensures (omega arith) (omega arith))))

pub returns-else-is_second : goal.returns-else-is_second
returns-else-is_second c = λ xs parts room.
    rw (c.if-is_second.false)
    (parts-first xs c.args.self.now (First, c.args.bit) c.append-else-is_second.new.self refl room parts
    (c.append-else-is_second.ensures ∙ ap (λ b. c.args.self.now.first ++ b)
    (one_bit c.from-else-is_second.result 1 c.args.bit c.from-else-is_second.ensures (omega arith) (omega arith))))
