use Rattle.std.proofs.Common.{◌≡◌, ◌+◌, ◌-◌, ◌^◌, ◌++◌, ℕ, min, List, None, sym, ap, ◌∙◌, subst, arith}
use Rattle.bus_bits.specs.Bits.{bits_from}
use Rattle.bus_bits.proofs.OctetLemmas.{least}
use Rattle.bus_dictionary.specs.Dictionary.{longest_of}
use Rattle.bus_pairing.specs.Seen.{SeenReport}
use Rattle.bus_watch.specs.After.{AnalyserState, one_line}
use Rattle.bus_watch.specs.Internal.AnalyserView.{analyser_state}
use Rattle.bus_watch.specs.Decodes.{DecodesMany}
use Rattle.bus_watch.specs.Watch.{AdvancesWatchShown}
use Rattle.bus_watch.proofs.DecodesLemmas.{leads-decoded, line-keeps_up}
use Rattle.bus_watch.proofs.analyser.Analyser.scan.Goals as goal

pub observe_bits-requires-clause-keeps_up : goal.observe_bits-requires-clause-keeps_up
observe_bits-requires-clause-keeps_up g c =
    line-keeps_up g.C.Check.check (analyser_state c.self.inside) c.self.invariant.bits c.self.invariant.reached

pub observe_bits-requires-clause-places : goal.observe_bits-requires-clause-places
observe_bits-requires-clause-places g c = omega (
  arith,
  c.min-count.ensures ∙ least (c.args.end - c.args.from) (2 ^ 60 - c.place-places.result),
  c.place-places.ensures.value,
  c.place-places.ensures.fits,
  ap (λ (a : AnalyserState g.row.C.Denot). a.decoder.place) c.self.view_is,
)

pub observe_bits-requires-clause-room : goal.observe_bits-requires-clause-room
observe_bits-requires-clause-room g c =
    g.met.L.ReportObserver.has_less c.args.observer.now
    (min (c.args.end - c.args.from) (2 ^ 60 - c.args.self.now.decoder.place))
    (c.args.from + c.min-count.result - c.args.from)
    (omega (
      arith,
      c.min-count.ensures ∙ least (c.args.end - c.args.from) (2 ^ 60 - c.place-places.result),
      c.place-places.ensures.value,
    )) c.requires.room

pub observe_bits-requires-clause-enough : goal.observe_bits-requires-clause-enough
observe_bits-requires-clause-enough g c = omega (
  arith,
  c.min-count.ensures ∙ least (c.args.end - c.args.from) (2 ^ 60 - c.place-places.result),
  c.requires.some,
  c.requires.enough,
)

pub invariant_of-self : goal.invariant_of-self
invariant_of-self g c =
    let decoded = c.observe_bits.ensures.observes in
    let x = bits_from c.args.octets.now c.args.from (c.args.from + c.min-count.result - c.args.from) in
    let new : AnalyserState g.row.C.Denot =
    record { decoder = c.observe_bits.new.decoder; conversation = c.observe_bits.new.conversation } in
    let led = leads-decoded g.C.Check.check (analyser_state c.self.inside) new x _ decoded in
    record {
      depth = omega (arith, c.self.invariant.depth, decoded.depth);
      longest = decoded.led.longest ∙ c.self.invariant.longest ∙ ap longest_of (sym decoded.dictionary);
      bits = c.self.invariant.bits ++ x;
      reached = led.sees.is_after c.self.invariant.bits c.self.invariant.reached;
    }

pub returns-clause-told : goal.returns-clause-told
returns-clause-told g c =
    let view = g.C.Check.check in
    let decoded = c.observe_bits.ensures.observes in
    let old = analyser_state c.self.inside in
    let new : AnalyserState g.row.C.Denot =
    record { decoder = c.observe_bits.new.decoder; conversation = c.observe_bits.new.conversation } in
    let whole : c.args.from + c.min-count.result - c.args.from ≡ c.min-count.result = omega arith in
    let x = bits_from c.args.octets.now c.args.from c.min-count.result in
    let told : AnalyserState g.row.C.Denot → List SeenReport → Type 0 = λ a ss.
    g.L.ReportObserver.observes a.conversation.dictionary c.args.observer.now c.args.out.now ss
    c.observe_bits.new.observer
    c.observe_bits.new.out in
    subst (λ (a : AnalyserState g.row.C.Denot). AdvancesWatchShown (one_line view) a x new (told a)) c.self.view_is
    (leads-decoded view old new x (told old)
    (subst (λ (k : ℕ). DecodesMany view None c.self.inside.decoder c.self.inside.conversation
    (bits_from c.args.octets.now c.args.from k) c.observe_bits.new.decoder c.observe_bits.new.conversation (told old))
    whole
    decoded))
