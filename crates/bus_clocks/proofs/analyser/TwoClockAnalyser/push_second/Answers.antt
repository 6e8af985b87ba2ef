use Rattle.std.proofs.Common.{◌∷◌, ◌++◌, [], Some, refl, arith}
use Rattle.std.specs.Option.{option_to_list}
use Rattle.bus_line.specs.declared.line.Line.TheVariants.{Second}
use Rattle.bus_watch.specs.Decodes.{told_on}
use Rattle.bus_tap.specs.Arrival.{own}
use Rattle.bus_clocks.specs.Clocks.{AdvancesArrivals}
use Rattle.bus_clocks.specs.Internal.ClockView.{clock_state}
use Rattle.bus_clocks.proofs.PushLemmas.{push-second, sees-arrival, whole-decoded, whole-located}
use Rattle.bus_clocks.proofs.RoomLemmas.{room-arrivals}
use Rattle.bus_clocks.proofs.analyser.TwoClockAnalyser.push_second.Given.{Over}
use Rattle.bus_clocks.proofs.analyser.TwoClockAnalyser.push_second.Goals as goal

pub enter-requires-clause-whole : goal.enter-requires-clause-whole
enter-requires-clause-whole g c =
    whole-located _ c.in_ok-event.event c.located_option-event.result c.octets-octets.result.now
    c.located_option-event.ensures.located
    (whole-decoded c.reports_are.ensures.due c.frame_is_spelled.ensures c.in_ok-event.ensures.decodes
    (own Second c.self.invariant.arrivals) c.self.invariant.reached.second _ c.octets-octets.ensures.value)

pub enter-requires-clause-room : goal.enter-requires-clause-room
enter-requires-clause-room g c =
    let reached = c.self.invariant.reached in
    room-arrivals g.C.Check.check (clock_state c.self.inside) c.self.invariant.arrivals c.reports_grow.ensures.more
    c.arrivals_are.ensures.grow c.settled_places.ensures.frames c.settled_places.ensures.paid
    c.settled_places.ensures.within reached
    (omega (arith, c.place-place.ensures.value, c.place-place.ensures.fits, reached.first.has_taken.place))
    (omega (arith, c.place-number.ensures.value, c.place-number.ensures.fits, reached.second.has_taken.place))

sees : (g : Over) (c : goal.After-enter g) → AdvancesArrivals g.C.Check.check (clock_state c.self.inside)
    ((Second, c.args.bit) ∷ [])
    (option_to_list (told_on (Some Second) c.decode.new.decoder.octets c.enter.result c.enter.new.conversation.last))
    (record {
      first = c.self.inside.first;
      second = c.decode.new.decoder;
      conversation = c.enter.new.conversation;
      places = c.note.new.self;
    })
sees g c =
    sees-arrival g.C.Check.check (clock_state c.self.inside) _ _ _ _ c.arrivals_are.ensures.grow
    (push-second g.C.Check.check (clock_state c.self.inside) _ c.args.bit c.in_ok-event.event
    c.located_option-event.result c.place-number.result c.begins-opens.result
    (told_on (Some Second) c.decode.new.decoder.octets c.enter.result c.enter.new.conversation.last)
    (omega (arith, c.place-place.ensures.value, c.place-place.ensures.fits))
    (record {
      decodes = c.in_ok-event.ensures.decodes;
      at_place = c.place-number.ensures.value;
      notes = c.note.ensures.notes;
      begins = c.begins-opens.ensures;
    }) c.located_option-event.ensures.located (rw (c.octets-octets.ensures.value) at c.enter.ensures) refl)

pub invariant_of-self-2 : goal.invariant_of-self-2
invariant_of-self-2 g c = record {
  depth = omega (arith, c.self.invariant.depth, c.enter.ensures.depth);
  arrivals = c.self.invariant.arrivals ++ (Second, c.args.bit) ∷ [];
  reached = (sees g c).is_after c.self.invariant.arrivals c.self.invariant.reached;
}

pub returns-clause-sees : goal.returns-clause-sees
returns-clause-sees g c = rw (← c.self.view_is) (sees g c)
