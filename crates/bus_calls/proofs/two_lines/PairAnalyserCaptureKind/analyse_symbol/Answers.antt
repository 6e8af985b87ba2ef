use Rattle.std.proofs.Common.{List, Bool, ◌++◌, MatchResult, subst}
use Rattle.bus_calls.specs.Internal.TwoLines.{two_line_kind}
use Rattle.bus_calls.specs.Internal.Watching.{FeedStopsWith, FeedAfter}
use Rattle.bus_calls.proofs.TwoLinesLemmas.{pair-alone}
use Rattle.bus_calls.proofs.two_lines.PairAnalyserCaptureKind.analyse_symbol.Goals as goal

pub returns-clause-taken : goal.returns-clause-taken
returns-clause-taken g c = λ start b followed.
    let kind = two_line_kind g.C.Check.check in
    let after = g.W.Write.contents c.analyse_pairs.new.w in
    subst (λ (pairs : List (Bool × Bool)). MatchResult c.analyse_pairs.result
    (λ _. FeedAfter kind start after c.analyse_pairs.new.run (b ++ pairs))
    (λ fault. FeedStopsWith kind start after c.analyse_pairs.new.run (b ++ pairs) fault))
    (pair-alone c.from.result c.from-2.result c.args.symbol.0 c.args.symbol.1 c.from.ensures c.from-2.ensures)
    (c.analyse_pairs.ensures.taken start b followed)
