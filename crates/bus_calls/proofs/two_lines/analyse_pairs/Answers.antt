use Rattle.std.proofs.Common.{◌≡◌, ◌+◌, ◌-◌, ◌≤◌, ◌++◌, ℕ, Bool, List, zip, ap, sym, refl, ◌∙◌}
use Rattle.std.proofs.Common.{subst, arith, MatchResult}
use Rattle.bus_bits.specs.Bits.{bits_from}
use Rattle.bus_calls.specs.Internal.TwoLines.{two_line_kind}
use Rattle.bus_calls.specs.Internal.Watching.{FeedAfter, FeedStopsWith}
use Rattle.bus_calls.specs.declared.run.CaptureRun.{CaptureRun}
use Rattle.bus_watch.specs.Pairs.{PairState}
use Rattle.bus_watch.proofs.PairScanLemmas.{length-zipped, zip-met}
use Rattle.bus_calls.proofs.ToldLemmas.{as-given, told-scanned, told-sound}
use Rattle.bus_calls.proofs.two_lines.analyse_pairs.Goals as goal

pub returns-clause-taken : goal.returns-clause-taken
unfolding bits_from
returns-clause-taken g c = λ start b followed.
    let kind = two_line_kind g.C.Check.check in
    let n = c.scan-taken.result in
    let os = c.args.first.now in
    let ys = c.args.second.now in
    let within : n ≤ c.args.count = omega (arith, c.scan-taken.ensures.taken) in
    let all : c.args.count ≡ n + (c.args.count - n) = omega (arith, within) in
    let left = zip (bits_from os n (c.args.count - n)) (bits_from ys n (c.args.count - n)) in
    let told = c.scan-taken.ensures.told in
    let now = g.W.Write.contents c.scan-taken.new.out in
    let new : CaptureRun (PairState g.row.C.Denot) =
    record { analyser = c.scan-taken.new.self; reporter = c.scan-taken.new.observer } in
    subst (λ (z : List (Bool × Bool)). MatchResult c.scanned.result (λ _. FeedAfter kind start now new (b ++ z))
    (λ f. FeedStopsWith kind start now new (b ++ z) f))
    (sym (ap (λ (k : ℕ). zip (bits_from os 0 k) (bits_from ys 0 k)) all ∙ zip-met os ys n (c.args.count - n)))
    (as-given kind start now new (b ++ (zip (bits_from os 0 n) (bits_from ys 0 n) ++ left)) c.scanned.result tt refl
    (told-scanned kind {v = new} {after = now} told c.laws.ensures left n c.args.count c.scanned.result
    c.scanned.ensures.cut c.scanned.ensures.placed
    (λ full. let none : c.args.count - n ≡ 0 = omega (arith, full) in
    ap (λ (k : ℕ). zip (bits_from os n k) (bits_from ys n k)) none)
    (λ fewer. (
      omega (arith, fewer, length-zipped os ys n (c.args.count - n)),
      omega (arith, fewer, told.sees.place, length-zipped os ys 0 n, c.scan-taken.ensures.taken),
    ))
    (omega (arith, length-zipped os ys 0 n, c.scan-taken.ensures.taken, c.requires.sound.places)) c.requires.sound
    start b followed.bits))

pub returns-clause-sound : goal.returns-clause-sound
returns-clause-sound g c =
    let n = c.scan-taken.result in
    let os = c.args.first.now in
    let ys = c.args.second.now in
    told-sound (two_line_kind g.C.Check.check) c.scan-taken.ensures.told
    (omega (arith, length-zipped os ys 0 n, c.scan-taken.ensures.taken, c.requires.sound.places)) c.requires.sound
