use Rattle.std.proofs.Common.{[], ◌∷◌, append-nil, ap, arith}
use Rattle.std.proofs.lemmas.Result.{on_ok_weaker, on_err_weaker}
use Rattle.bus_watch.specs.PairShown.{shown_pair}
use Rattle.bus_watch.specs.Pairs.{AdvancesPairs, seen_after_pairs}
use Rattle.bus_watch.proofs.PairFedLemmas.{fed-offered, refused-offered}
use Rattle.bus_watch.proofs.pair.analyser.PairAnalyser.feed_pair.Given.{Over}
use Rattle.bus_watch.proofs.pair.analyser.PairAnalyser.feed_pair.Goals as goal

sees : (g : Over) (c : goal.After-offer_both g) → AdvancesPairs g.C.Check.check c.args.self.now
    (c.args.pair ∷ []) (shown_pair c.lent.result) c.advance.new.self
sees g c = rw (c.lent.ensures.shown) c.in-Ok.ensures.sees

pub returns-clause-fed : goal.returns-clause-fed
returns-clause-fed g c =
    on_ok_weaker c.offer_both.result (λ offered. fed-offered (sees g c) offered) c.offer_both.ensures.ok

pub returns-clause-none_refused : goal.returns-clause-none_refused
returns-clause-none_refused g c = on_ok_weaker c.offer_both.result (λ offered. offered.counts) c.offer_both.ensures.ok

pub returns-clause-refused : goal.returns-clause-refused
returns-clause-refused g c =
    on_err_weaker c.offer_both.result
    (λ offered. (
      offered.0,
      offered.2,
      offered.3.counts,
      refused-offered (omega arith) offered.1 (sees g c)
          (λ b reached. ap (seen_after_pairs c.args.self.now) (append-nil b)) offered.3,
    ))
    c.offer_both.ensures.err
