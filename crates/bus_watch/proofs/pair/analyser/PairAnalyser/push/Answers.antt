use Rattle.std.proofs.Common.{Bool, [], ◌∷◌, refl}
use Rattle.bus_watch.specs.PairShown.{shown_pair}
use Rattle.bus_watch.specs.Pairs.{AdvancesPairs}
use Rattle.bus_watch.proofs.PairLemmas.{answer-pair}
use Rattle.bus_watch.proofs.pair.analyser.PairAnalyser.push.Goals as goal

pub returns : goal.returns
returns g c =
    let pair : Bool × Bool = (c.args.first, c.args.second) in
    let sees : AdvancesPairs g.C.Check.check c.args.self.now (pair ∷ []) (shown_pair c.lent.result) c.advance.new.self =
    rw (c.lent.ensures.shown) c.in_ok-found.ensures.sees in (
      (refl, (λ _. tt), (sees, tt)),
      record {
        limit = c.in_ok-found.ensures.limit;
        answer = λ ps reached. answer-pair g.C.Check.check c.args.self.now ps pair (shown_pair c.lent.result)
            c.pairs_grow.ensures.grows reached (sees.seen ps reached);
        fits = (c.lent.ensures.first_fits, c.lent.ensures.second_fits);
        rests = tt;
      },
    )
