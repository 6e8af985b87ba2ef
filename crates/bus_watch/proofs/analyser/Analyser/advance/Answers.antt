use Rattle.std.proofs.Common.{[], ◌∷◌, ◌++◌, sym, ap, ◌∙◌, subst, arith}
use Rattle.std.specs.Option.{option_map, option_to_list}
use Rattle.bus_dictionary.specs.Dictionary.{longest_of}
use Rattle.bus_pairing.specs.Shown.{found}
use Rattle.bus_watch.specs.Internal.AnalyserView.{analyser_state}
use Rattle.bus_watch.specs.After.{AnalyserState, AdvancesAnalyser}
use Rattle.bus_watch.proofs.DecodesLemmas.{sees-decoded}
use Rattle.bus_watch.proofs.AnalyserViewLemmas.{room}
use Rattle.bus_watch.proofs.analyser.Analyser.advance.Goals as goal

pub decode_bit-requires-clause-room : goal.decode_bit-requires-clause-room
decode_bit-requires-clause-room g c = λ place.
    room g.C.Check.check _ c.self.invariant.bits c.settled_places.ensures.frames
    c.settled_places.ensures.paid c.settled_places.ensures.within c.self.invariant.reached
    (omega (arith, place, c.self.invariant.reached.decoder.has_taken.place))

pub invariant_of-self-2 : goal.invariant_of-self-2
invariant_of-self-2 g c =
    let decoded = c.in_ok-seen_event.ensures.reports in
    let bits = c.args.bit ∷ [] in
    let new : AnalyserState g.row.C.Denot = record
    { decoder = c.decode_bit.new.decoder; conversation = c.decode_bit.new.conversation } in
    let sees = sees-decoded g.C.Check.check (analyser_state c.self.inside) new bits _ (omega arith) decoded in
    record {
      depth = omega (arith, c.self.invariant.depth, decoded.depth);
      longest = decoded.advances.decides.leads.longest ∙ c.self.invariant.longest
          ∙ ap longest_of (sym decoded.dictionary);
      bits = c.self.invariant.bits ++ bits;
      reached = sees.is_after c.self.invariant.bits c.self.invariant.reached;
    }

pub returns-clause-sees : goal.returns-clause-sees
returns-clause-sees g c =
    let new : AnalyserState g.row.C.Denot = record
    { decoder = c.decode_bit.new.decoder; conversation = c.decode_bit.new.conversation } in
    let told = option_to_list (option_map (found c.decode_bit.new.decoder.octets) c.in_ok-seen_event.seen_event) in
    subst (λ a. AdvancesAnalyser g.C.Check.check a (c.args.bit ∷ []) told new) c.self.view_is
    (sees-decoded g.C.Check.check (analyser_state c.self.inside) new (c.args.bit ∷ []) _ (omega arith)
    c.in_ok-seen_event.ensures.reports)
