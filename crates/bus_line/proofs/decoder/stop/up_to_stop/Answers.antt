use Rattle.std.proofs.Common.{◌≤◌, ◌+◌, ℕ, arith}
use Rattle.std.specs.Int.{trailing_zeros, w64}
use Rattle.std.proofs.lemmas.Bool.{ltb-false}
use Rattle.bus_bits.proofs.OctetLemmas.{least}
use Rattle.bus_line.proofs.SettledDataLemmas.{first-stop, stops}
use Rattle.bus_line.proofs.decoder.stop.up_to_stop.Goals as goal

pub returns-clause-count : goal.returns-clause-count
returns-clause-count c =
    let before : ℕ = trailing_zeros w64 (stops c.args.word c.args.count) in
    omega (arith, c.min.ensures, least (before + 1) c.args.count, c.requires.some)

pub returns-clause-before : goal.returns-clause-before
returns-clause-before c = λ i earlier.
    let before : ℕ = trailing_zeros w64 (stops c.args.word c.args.count) in
    let stop = first-stop c.args.word c.args.count c.ranges.word.fits c.requires.some.1 in
    stop.no_stop i (omega (arith, earlier, c.min.ensures, least (before + 1) c.args.count))

pub returns-clause-none : goal.returns-clause-none
returns-clause-none c = λ going.
    let before : ℕ = trailing_zeros w64 (stops c.args.word c.args.count) in
    let stop = first-stop c.args.word c.args.count c.ranges.word.fits c.requires.some.1 in
    let all : c.args.count ≤ before = ltb-false before c.args.count going in (
      omega (arith, all, c.min.ensures, least (before + 1) c.args.count),
      λ i earlier. stop.no_stop i (omega (arith, all, earlier)),
    )
