use Rattle.std.proofs.Common.{◌≡◌, ◌+◌, ◌-◌, ◌≤◌, ◌++◌, ℕ, Bool, List, ap, sym, refl, ◌∙◌, subst, arith, MatchResult}
use Rattle.bus_bits.specs.Bits.{bits_from}
use Rattle.bus_calls.specs.Internal.OneLine.{one_line_kind}
use Rattle.bus_calls.specs.Internal.Watching.{FeedAfter, FeedStopsWith}
use Rattle.bus_calls.specs.declared.run.CaptureRun.{CaptureRun}
use Rattle.bus_watch.specs.After.{AnalyserState}
use Rattle.bus_bits.proofs.BitLemmas.{bits-more, length-from}
use Rattle.bus_calls.proofs.ToldLemmas.{as-given, told-scanned, told-sound}
use Rattle.bus_calls.proofs.one_line.analyse_bits.Goals as goal

pub returns-clause-taken : goal.returns-clause-taken
unfolding bits_from
returns-clause-taken g c = λ start b followed.
    let kind = one_line_kind g.C.Check.check in
    let n = c.scan-taken.result in
    let os = c.args.octets.now in
    let within : n ≤ c.args.end = omega (arith, c.scan-taken.ensures.taken) in
    let all : c.args.end ≡ n + (c.args.end - n) = omega (arith, within) in
    let here : 0 + n ≡ n = omega arith in
    let left = bits_from os n (c.args.end - n) in
    let told = c.scan-taken.ensures.told in
    let now = g.W.Write.contents c.scan-taken.new.out in
    let new : CaptureRun (AnalyserState g.row.C.Denot) =
    record { analyser = c.scan-taken.new.self; reporter = c.scan-taken.new.observer } in
    subst (λ (z : List Bool). MatchResult c.scanned.result (λ _. FeedAfter kind start now new (b ++ z))
    (λ f. FeedStopsWith kind start now new (b ++ z) f))
    (sym (ap (bits_from os 0) all ∙ (bits-more os 0 n (c.args.end - n)
    ∙ ap (λ (k : ℕ). bits_from os 0 n ++ bits_from os k (c.args.end - n)) here)))
    (as-given kind start now new (b ++ (bits_from os 0 n ++ left)) c.scanned.result tt refl
    (told-scanned kind {v = new} {after = now} told c.laws.ensures left n c.args.end c.scanned.result
    c.scanned.ensures.cut c.scanned.ensures.placed
    (λ full. let none : c.args.end - n ≡ 0 = omega (arith, full) in ap (bits_from os n) none)
    (λ fewer. (
      omega (arith, fewer, length-from os n (c.args.end - n)),
      omega (arith, fewer, told.sees.place, length-from os 0 n, c.scan-taken.ensures.taken),
    ))
    (omega (arith, length-from os 0 n, c.scan-taken.ensures.taken, c.requires.sound.places)) c.requires.sound start b
    followed.bits))

pub returns-clause-sound : goal.returns-clause-sound
returns-clause-sound g c =
    let n = c.scan-taken.result in
    let os = c.args.octets.now in
    told-sound (one_line_kind g.C.Check.check) c.scan-taken.ensures.told
    (omega (arith, length-from os 0 n, c.scan-taken.ensures.taken, c.requires.sound.places)) c.requires.sound
