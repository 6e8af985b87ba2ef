use Rattle.std.proofs.Common.{◌≡◌, ◌++◌, ◌∷◌, [], Bool, List, true, false, zip, refl, subst, MatchResult}
use mir.Val.{bool_byte}
use Rattle.bus_bits.specs.Bits.{bits_from}
use Rattle.bus_calls.specs.Internal.Arrivals.{arrivals_kind}
use Rattle.bus_calls.specs.Internal.Watching.{FeedAfter, FeedStopsWith}
use Rattle.bus_calls.proofs.arrivals.ClockAnalyserCaptureKind.analyse_symbol.Goals as goal

-- the symbol, as octets hold it
held : (bit second : Bool) →
    zip (bits_from (bool_byte bit ∷ []) 0 1) (bits_from (bool_byte second ∷ []) 0 1) ≡ (bit, second) ∷ []
unfolding bits_from
held true true = refl
held true false = refl
held false true = refl
held false false = refl

pub returns-clause-taken : goal.returns-clause-taken
returns-clause-taken g c = λ start b fed.
    let kind = arrivals_kind g.C.Check.check in
    let run = c.analyse_rested.new.run in
    let now = g.W.Write.contents c.analyse_rested.new.w in
    let symbol = c.args.symbol in
    let this : zip (bits_from (c.from.result ∷ []) 0 1) (bits_from (c.from-2.result ∷ []) 0 1) ≡ symbol ∷ [] =
    rw (c.from.ensures, c.from-2.ensures) (held symbol.0 symbol.1) in
    subst (λ (xs : List (Bool × Bool)). MatchResult c.analyse_rested.result (λ _. FeedAfter kind start now run
    (b ++ xs))
    (λ f. FeedStopsWith kind start now run (b ++ xs) f)) this (c.analyse_rested.ensures.taken start b fed)
