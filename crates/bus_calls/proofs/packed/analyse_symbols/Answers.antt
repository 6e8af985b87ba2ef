use Rattle.std.proofs.Common.{List, [], ◌∷◌, ◌++◌, ◌+◌, take, drop, subst, arith}
use Rattle.std.proofs.lemmas.Result.{err_from_is_err_and}
use Rattle.std.proofs.lemmas.List.{take_all}
use Rattle.bus_calls.specs.Internal.Watching.{FeedAfter, FeedStopsWith}
use Rattle.bus_calls.proofs.WatchingLemmas.{same-both, feed-halts-more, item-middle, item-next}
use Rattle.bus_calls.proofs.packed.analyse_symbols.Goals as goal

pub returns-in_err-analyse_symbol-clause-taken : goal.returns-in_err-analyse_symbol-clause-taken
returns-in_err-analyse_symbol-clause-taken g c =
    let failed = err_from_is_err_and c.from_residual.result c.from_residual.ensures.1 in
    rw (failed.1, failed.2) (λ start b followed.
    let all = c.args.symbols.now in
    let i = c.loop-symbol.symbol-index in
    let x = c.symbol-item.result in
    let halts = c.in_err-analyse_symbol.ensures.taken start (b ++ take i all)
    (c.loop-symbol.invariant.followed start b followed) in
    subst (λ (z : List g.row.T-Symbol.Denot).
    FeedStopsWith g.T.CaptureKind.kind start (g.W.Write.contents c.analyse_symbol.new.w) c.analyse_symbol.new.run z
    c.in_err-analyse_symbol.field-0.0)
    (item-middle b all i x x c.loop-symbol-test.true c.symbol-item.is)
    (feed-halts-more g.T.CaptureKind.kind c.laws.ensures start _ c.analyse_symbol.new.run
    ((b ++ take i all) ++ x ∷ []) (drop (i + 1) all)
    c.in_err-analyse_symbol.field-0.0 halts))

pub loop-symbol-preserved : goal.loop-symbol-preserved
loop-symbol-preserved g c = record {
  sound = c.analyse_symbol.ensures.sound;
  same = same-both c.loop-symbol.invariant.same c.analyse_symbol.ensures.same;
  followed = λ start b followed.
      let all = c.args.symbols.now in
      let i = c.loop-symbol.symbol-index in
      let x = c.symbol-item.result in
      subst (FeedAfter g.T.CaptureKind.kind start (g.W.Write.contents c.analyse_symbol.new.w) c.analyse_symbol.new.run)
      (item-next b all i x x c.loop-symbol-test.true c.symbol-item.is)
      (c.in_ok-analyse_symbol.ensures.taken start (b ++ take i all)
      (c.loop-symbol.invariant.followed start b followed));
}

pub returns-clause-taken : goal.returns-clause-taken
returns-clause-taken g c =
    λ start b followed.
    subst (λ (x : List g.row.T-Symbol.Denot).
    FeedAfter g.T.CaptureKind.kind start (g.W.Write.contents c.loop-symbol.w) c.loop-symbol.run (b ++ x))
    (take_all c.loop-symbol.symbol-index c.args.symbols.now (omega arith))
    (c.loop-symbol.invariant.followed start b followed)
