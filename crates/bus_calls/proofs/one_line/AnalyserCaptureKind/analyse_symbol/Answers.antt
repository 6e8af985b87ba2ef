use Rattle.std.proofs.Common.{List, Bool, ◌++◌, MatchResult, subst}
use Rattle.bus_calls.specs.Internal.OneLine.{one_line_kind}
use Rattle.bus_calls.specs.Internal.Watching.{FeedStopsWith, FeedAfter}
use Rattle.bus_calls.proofs.OneLineLemmas.{bit-alone}
use Rattle.bus_calls.proofs.one_line.AnalyserCaptureKind.analyse_symbol.Goals as goal

pub returns-clause-taken : goal.returns-clause-taken
returns-clause-taken g c = λ start b followed.
    let kind = one_line_kind g.C.Check.check in
    let after = g.W.Write.contents c.analyse_bits.new.w in
    subst (λ (bits : List Bool). MatchResult c.analyse_bits.result
    (λ _. FeedAfter kind start after c.analyse_bits.new.run (b ++ bits))
    (λ fault. FeedStopsWith kind start after c.analyse_bits.new.run (b ++ bits) fault))
    (bit-alone c.from.result c.args.symbol c.from.ensures) (c.analyse_bits.ensures.taken start b followed)
