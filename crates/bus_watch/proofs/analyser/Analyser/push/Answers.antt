use Rattle.std.proofs.Common.{[], ◌∷◌, refl, sym, subst}
use Rattle.std.specs.Option.{option_map, option_to_list}
use Rattle.bus_pairing.specs.Shown.{found, shown_option}
use Rattle.bus_watch.specs.After.{AnalyserState, AdvancesAnalyser}
use Rattle.bus_watch.specs.Internal.AnalyserView.{analyser_state}
use Rattle.bus_watch.proofs.LawsLemmas.{answer-is}
use Rattle.bus_watch.proofs.analyser.Analyser.push.Goals as goal

pub returns : goal.returns
returns g c =
    let now = analyser_state c.self.inside in
    let sees : AdvancesAnalyser g.C.Check.check c.args.self.now (c.args.bit ∷ [])
    (option_to_list (shown_option c.lent.result)) now =
    rw (c.lent.ensures.only_line)
    (subst (λ (a : AnalyserState g.row.C.Denot). AdvancesAnalyser g.C.Check.check c.args.self.now (c.args.bit ∷ [])
    (option_to_list (option_map (found a.decoder.octets) c.in_ok-seen_event.seen_event)) a) (sym c.self.view_is)
    c.in_ok-seen_event.ensures.sees) in (
      (refl, (λ _. tt), (sees, tt)),
      record {
        limit = c.in_ok-seen_event.ensures.limit;
        answer = λ b reached. answer-is g.C.Check.check c.args.self.now b c.args.bit
            (shown_option c.lent.result) c.seen_grows.ensures.grows reached (sees.seen b reached);
        fits = c.lent.ensures.fits;
        rests = tt;
      },
    )
