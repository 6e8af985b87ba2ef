use Rattle.std.proofs.Common.{◌≡◌, ◌+◌, ◌-◌, ◌^◌, ◌++◌, min, List, subst, sym, ap, ◌∙◌, arith, MatchResult}
use Rattle.bus_tap.specs.Arrival.{Arrival, arrivals_from}
use Rattle.bus_tap.proofs.ArrivalLemmas.{arrivals-more, arrivals-none, length-arrivals}
use Rattle.bus_clocks.specs.Clocks.{bits_taken}
use Rattle.bus_calls.specs.declared.arrivals.ClockAnalyser.{ClockAnalyser}
use Rattle.bus_calls.specs.declared.run.CaptureRun.{CaptureRun}
use Rattle.bus_calls.specs.Internal.Arrivals.{arrivals_kind}
use Rattle.bus_calls.specs.Internal.Watching.{WatchAfter, WatchStopsWith}
use Rattle.bus_calls.proofs.ToldLemmas.{told-scanned, told-sound}
use Rattle.bus_calls.proofs.ArrivalsLemmas.{told-behind}
use Rattle.bus_calls.proofs.arrivals.analyse_arrivals.Goals as goal

pub returns-clause-taken : goal.returns-clause-taken
returns-clause-taken g c = λ start b followed.
    let view = g.C.Check.check in
    let kind = arrivals_kind view in
    let n = c.scan-taken.result in
    let bits = c.args.bits.now in
    let lines = c.args.lines.now in
    let from = c.args.from in
    let count = c.args.end - from in
    let old = c.args.run.now.analyser in
    let taken : n ≡ min count (2 ^ 60 - bits_taken old.analyser) = c.scan-taken.ensures.taken in
    let now = g.W.Write.contents c.scan-taken.new.out in
    let new : CaptureRun (ClockAnalyser g.row.C.Denot) =
    record { analyser = record old { analyser = c.scan-taken.new.self }; reporter = c.scan-taken.new.observer } in
    let told = told-behind view old new.analyser (arrivals_from bits lines from n) _ c.scan-taken.ensures.told in
    let all : n + (count - n) ≡ count = omega (arith, taken) in
    let whole : arrivals_from bits lines from n ++ arrivals_from bits lines (from + n) (count - n)
    ≡ arrivals_from bits lines from count =
    sym (arrivals-more bits lines from n (count - n)) ∙ ap (arrivals_from bits lines from) all in
    subst (λ (ys : List Arrival). MatchResult c.scanned.result (λ _. WatchAfter kind start now new (b ++ ys))
    (λ f. WatchStopsWith kind start now new (b ++ ys) f)) whole
    (told-scanned kind {v = new} {after = now} told c.laws.ensures (arrivals_from bits lines (from + n)
    (count - n)) n count
    c.scanned.result c.scanned.ensures.cut c.scanned.ensures.placed
    (λ full. let none : count - n ≡ 0 = omega (arith, full) in
    ap (arrivals_from bits lines (from + n)) none ∙ arrivals-none bits lines (from + n))
    (λ fewer. (
      omega (arith, fewer, length-arrivals bits lines (from + n) (count - n)),
      omega (arith, fewer, told.sees.place, length-arrivals bits lines from n, taken),
    ))
    (omega (arith, length-arrivals bits lines from n, taken, c.requires.sound.places))
    c.requires.sound start b followed)

pub returns-clause-sound : goal.returns-clause-sound
returns-clause-sound g c =
    let view = g.C.Check.check in
    let n = c.scan-taken.result in
    let bits = c.args.bits.now in
    let lines = c.args.lines.now in
    let old = c.args.run.now.analyser in
    let from = c.args.from in
    let taken : n ≡ min (c.args.end - from) (2 ^ 60 - bits_taken old.analyser) = c.scan-taken.ensures.taken in
    told-sound (arrivals_kind view)
    (told-behind view old (record old { analyser = c.scan-taken.new.self }) (arrivals_from bits lines from n) _
    c.scan-taken.ensures.told)
    (omega (arith, length-arrivals bits lines from n, taken, c.requires.sound.places)) c.requires.sound
