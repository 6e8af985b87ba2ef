use Rattle.std.proofs.Common.{[], ◌∷◌, refl}
use Rattle.std.specs.Option.{option_to_list}
use Rattle.bus_watch.specs.PairShown.{shown_option_on}
use Rattle.bus_clocks.specs.Clocks.{AdvancesArrivals}
use Rattle.bus_clocks.proofs.analyser.TwoClockAnalyser.push.Goals as goal

pub returns : goal.returns
returns g c =
    let sees : AdvancesArrivals g.C.Check.check c.args.self.now ((c.args.line, c.args.bit) ∷ [])
    (option_to_list (shown_option_on c.args.line c.lent.result)) c.step.new.self =
    rw (c.lent.ensures.shown) c.in_ok-is_decided.ensures.sees in (
      (refl, (λ _. tt), (sees, tt)),
      record {
        limit = (
          (λ same. absurd (cc)),
          (λ far. absurd (let refused = c.in_ok-is_decided.ensures.limit.1 far in cc)),
        );
        answer = sees.seen;
        fits = c.lent.ensures.fits;
        rests = tt;
      },
    )
