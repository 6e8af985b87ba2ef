use Rattle.std.proofs.Common.{◌∷◌, ◌++◌, [], Some, refl, ap, ◌∙◌, arith}
use Rattle.std.specs.Option.{option_to_list}
use Rattle.bus_line.specs.declared.line.Line.TheVariants.{First}
use Rattle.bus_watch.specs.Decodes.{told_on}
use Rattle.bus_tap.specs.Arrival.{own}
use Rattle.bus_clocks.specs.Clocks.{AdvancesArrivals}
use Rattle.bus_clocks.specs.Internal.ClockView.{clock_state}
use Rattle.bus_clocks.proofs.PushLemmas.{push-first, sees-arrival, whole-decoded}
use Rattle.bus_clocks.proofs.RoomLemmas.{room-arrivals}
use Rattle.bus_clocks.proofs.analyser.TwoClockAnalyser.push_first.Given.{Over}
use Rattle.bus_clocks.proofs.analyser.TwoClockAnalyser.push_first.Goals as goal

pub enter-requires-clause-whole : goal.enter-requires-clause-whole
enter-requires-clause-whole g c =
    whole-decoded c.reports_are.ensures.due c.frame_is_spelled.ensures c.in_ok-event.ensures.decodes
    (own First c.self.invariant.arrivals) c.self.invariant.reached.first _ c.octets-octets.ensures.value

pub enter-requires-clause-room : goal.enter-requires-clause-room
enter-requires-clause-room g c =
    let reached = c.self.invariant.reached in
    room-arrivals g.C.Check.check (clock_state c.self.inside) c.self.invariant.arrivals c.reports_grow.ensures.more
    c.arrivals_are.ensures.grow c.settled_places.ensures.frames c.settled_places.ensures.paid
    c.settled_places.ensures.within reached
    (omega (arith, c.place-place.ensures.value, c.place-place.ensures.fits, reached.first.has_taken.place))
    (omega (arith, c.place-bits.ensures.value, c.place-bits.ensures.fits, reached.second.has_taken.place))

sees : (g : Over) (c : goal.After-enter g) → AdvancesArrivals g.C.Check.check (clock_state c.self.inside)
    ((First, c.args.bit) ∷ [])
    (option_to_list (told_on (Some First) c.decode.new.decoder.octets c.enter.result c.enter.new.conversation.last))
    (record {
      first = c.decode.new.decoder;
      second = c.self.inside.second;
      conversation = c.enter.new.conversation;
      places = c.reach.new.self;
    })
sees g c =
    sees-arrival g.C.Check.check (clock_state c.self.inside) _ _ _ _ c.arrivals_are.ensures.grow
    (push-first g.C.Check.check (clock_state c.self.inside) _ c.args.bit c.in_ok-event.event
    (told_on (Some First) c.decode.new.decoder.octets c.enter.result c.enter.new.conversation.last)
    c.in_ok-event.ensures.decodes (rw (c.octets-octets.ensures.value) at c.enter.ensures) refl
    (c.reach.ensures.value ∙ ap (λ k. record c.self.inside.places { reached = k }) c.place-place.ensures.value))

pub invariant_of-self-2 : goal.invariant_of-self-2
invariant_of-self-2 g c = record {
  depth = omega (arith, c.self.invariant.depth, c.enter.ensures.depth);
  arrivals = c.self.invariant.arrivals ++ (First, c.args.bit) ∷ [];
  reached = (sees g c).is_after c.self.invariant.arrivals c.self.invariant.reached;
}

pub returns-clause-sees : goal.returns-clause-sees
returns-clause-sees g c = rw (← c.self.view_is) (sees g c)
