use Rattle.std.proofs.Common.{[], ◌∷◌, sym, ap, ◌∙◌, subst}
use Rattle.std.specs.Option.{option_map, option_to_list}
use Rattle.std.proofs.lemmas.Result.{on_err_weaker}
use Rattle.bus_pairing.specs.Shown.{found, shown_option}
use Rattle.bus_watch.specs.After.{AnalyserState, AdvancesAnalyser}
use Rattle.bus_watch.proofs.FedLemmas.{refused-bit}
use Rattle.bus_watch.proofs.analyser.Analyser.feed_bit.Goals.{in-None, in-Some}
use Rattle.bus_watch.proofs.analyser.Analyser.feed_bit.Goals as goal

pub returns-clause-refused : goal.returns-clause-refused
returns-clause-refused g c = elim c.match-lent.branch [
  | in-None w ↦ rw (w.result-is) tt
  | in-Some w ↦
      let shown =
      ap (λ (a : AnalyserState g.row.C.Denot). option_map (found a.decoder.octets) c.in-Ok.seen_event)
      (sym c.self.view_is)
      ∙ sym c.lent.ensures.only_line ∙ ap shown_option w.in-Some.is in
      let sees =
      subst (λ o. AdvancesAnalyser g.C.Check.check c.args.self.now (c.args.bit ∷ [])
      (option_to_list o) c.advance.new.self) shown
      c.in-Ok.ensures.sees in
      rw (w.result-is, w.sink-is)
      (on_err_weaker w.take.result (λ same. refused-bit sees same) w.take.ensures.not_taken)
]
