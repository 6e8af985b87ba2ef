use Rattle.std.proofs.Common.{◌∙◌, arith}
use Rattle.std.proofs.Math.Seq.{drop-length}
use Rattle.bus_dictionary.proofs.TypeNumbersLemmas.{none, step}
use Rattle.bus_dictionary.proofs.dictionary.numbers.numbers_of.Goals as goal

pub loop-number-init : goal.loop-number-init
loop-number-init c =
    let es = c.args.entries.now in
    record { number = omega arith; numbers = rw (drop-length es) (none es) }

pub loop-number-preserved : goal.loop-number-preserved
loop-number-preserved c =
    let before = c.loop-number.invariant in
    let read = c.index-entries-number in
    let some = c.loop-number-test.true in
    let number = before.number in
    let typed = c.from.ensures ∙ c.ftype.ensures in
    let small = c.ftype.type_inv in
    let from = c.from.ensures in
    record {
      number = omega arith;
      numbers = step c.loop-number.numbers c.args.entries.now c.loop-number.number c.from.result read.result some number
          read.is typed (omega arith) before.numbers;
    }
