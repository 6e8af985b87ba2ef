use Rattle.std.proofs.Common.{◌≡◌, ◌*◌, ◌/◌, arith}
use Rattle.bus_tap.specs.Arrival.{arrivals_from}
use Rattle.bus_clocks.proofs.PartsLemmas.{arrivals-one}
use Rattle.bus_clocks.proofs.TurnsLemmas.{first-begins, second-begins, silent-from}
use Rattle.bus_clocks.proofs.parted.Parted.take.Goals as goal

pub returns-then-turns-eq0-clause-parts : goal.returns-then-turns-eq0-clause-parts
returns-then-turns-eq0-clause-parts c = λ xs parts room.
    let here : 8 * (c.args.at / 8) ≡ c.args.at = omega (arith, c.if-at-eq0.true) in
    let zs = silent-from c.args.bits.now c.args.lines.now c.args.at c.eight_at-word.result c.eight_at-turns.result
    c.if-turns-eq0.true (rw here at c.eight_at-word.ensures) (rw here at c.eight_at-turns.ensures) in
    c.take_first.ensures xs (arrivals_from c.args.bits.now c.args.lines.now c.args.at 64) parts
    (omega (arith, room, c.if-count-ge64.true)) zs.0 zs.1

pub returns-then-turns-clause-parts : goal.returns-then-turns-clause-parts
returns-then-turns-clause-parts c = λ xs parts room.
    let here : 8 * (c.args.at / 8) ≡ c.args.at = omega (arith, c.if-at-eq0.true) in
    let zs = first-begins c.args.bits.now c.args.lines.now c.args.at c.eight_at-word.result c.eight_at-turns.result _ _
    c.if-turns.true (rw here at c.eight_at-word.ensures) (rw here at c.eight_at-turns.ensures)
    c.of-pairs.ensures.pairs in
    c.take_turns.ensures xs (arrivals_from c.args.bits.now c.args.lines.now c.args.at 64) parts
    (omega (arith, room, c.if-count-ge64.true)) zs.first zs.second zs.before

pub returns-then-turns-eq-SECOND_BEGINS-clause-parts : goal.returns-then-turns-eq-SECOND_BEGINS-clause-parts
returns-then-turns-eq-SECOND_BEGINS-clause-parts c = λ xs parts room.
    let here : 8 * (c.args.at / 8) ≡ c.args.at = omega (arith, c.if-at-eq0.true) in
    let zs = second-begins c.args.bits.now c.args.lines.now c.args.at c.eight_at-word.result c.eight_at-turns.result _ _
    c.if-turns-eq-SECOND_BEGINS.true (rw here at c.eight_at-word.ensures) (rw here at c.eight_at-turns.ensures)
    c.of-pairs.ensures.pairs in
    c.take_turns-then-turns-eq-SECOND_BEGINS.ensures xs
    (arrivals_from c.args.bits.now c.args.lines.now c.args.at 64) parts
    (omega (arith, room, c.if-count-ge64.true)) zs.first zs.second zs.before

pub returns-clause-parts : goal.returns-clause-parts
returns-clause-parts c = λ xs parts room.
    rw (arrivals-one c.args.bits.now c.args.lines.now c.args.at, ← c.bit_at.ensures, ← c.bit_at-2.ensures)
    (c.take_one.ensures xs parts (omega (arith, room, c.requires.some)))
