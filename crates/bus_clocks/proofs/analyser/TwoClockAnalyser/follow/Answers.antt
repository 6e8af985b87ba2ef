use Rattle.std.proofs.Common.{◌≡◌, ◌+◌, ◌-◌, ◌++◌, ◌<◌, [], List, length, refl, ap, ◌∙◌, arith}
use Rattle.bus_bits.specs.Bits.{bits_from}
use Rattle.bus_line.specs.declared.line.Line.TheVariants.{First}
use Rattle.bus_tap.specs.Arrival.{Arrival, own}
use Rattle.bus_watch.specs.Watch.{AdvancesWatchShown}
use Rattle.bus_watch.proofs.FedLemmas.{leads-nil}
use Rattle.bus_clocks.specs.Clocks.{ClockState, two_clocks}
use Rattle.bus_clocks.specs.Internal.ClockView.{clock_state}
use Rattle.bus_clocks.specs.Internal.Parts.{Parts, beyond}
use Rattle.bus_clocks.proofs.MiddleLemmas.{is-rest, rest-bits, rest-none}
use Rattle.bus_clocks.proofs.RoomLemmas.{own-count}
use Rattle.bus_clocks.proofs.StretchLemmas.{arrivals-keep_up, leads-followed}
use Rattle.bus_clocks.proofs.analyser.TwoClockAnalyser.follow.Given.{Over}
use Rattle.bus_clocks.proofs.analyser.TwoClockAnalyser.follow.Goals as goal

pub returns-then-from-past-clause-told : goal.returns-then-from-past-clause-told
returns-then-from-past-clause-told g c = λ ys parts.
    let rest = is-rest ys c.args.parted.now c.count.result c.ahead-from.result c.count-past.result parts
    c.count.ensures.value c.ahead-from.ensures c.count-past.ensures.value in
    rw (rest-none c.args.parted.now ys _ _ rest (omega (arith, c.if-from-past.true)))
    (record {
      seen = [];
      sees = leads-nil (two_clocks g.C.Check.check) c.args.self.now;
      few = omega arith;
      told = g.met.L.ReportObserver.observes_none c.args.self.now.conversation.dictionary c.args.observer.now
          c.args.out.now;
    })

pub returns-then-from-past-clause-left : goal.returns-then-from-past-clause-left
returns-then-from-past-clause-left g c =
    λ ys parts more room. g.met.L.ReportObserver.has_less c.args.observer.now _ more (omega arith) room

pub overflow_sub-past : goal.overflow_sub-past
overflow_sub-past g c =
    let rest = is-rest c.requires.parts.0 c.args.parted.now c.count.result c.ahead-from.result c.count-past.result
    c.requires.parts.1 c.count.ensures.value c.ahead-from.ensures c.count-past.ensures.value in
    omega (arith, rest.past_is)

pub overflow_sub-place : goal.overflow_sub-place
overflow_sub-place g c =
    let rest = is-rest c.requires.parts.0 c.args.parted.now c.count.result c.ahead-from.result c.count-past.result
    c.requires.parts.1 c.count.ensures.value c.ahead-from.ensures c.count-past.ensures.value in
    omega (arith, rest.past_is, c.if-from-past.false)

pub observe_bits-requires-clause-some : goal.observe_bits-requires-clause-some
observe_bits-requires-clause-some g c =
    let rest = is-rest c.requires.parts.0 c.args.parted.now c.count.result c.ahead-from.result c.count-past.result
    c.requires.parts.1 c.count.ensures.value c.ahead-from.ensures c.count-past.ensures.value in
    omega (arith, rest.past_is)

pub observe_bits-requires-clause-places : goal.observe_bits-requires-clause-places
observe_bits-requires-clause-places g c =
    let ys = c.requires.parts.0 in
    let rest = is-rest ys c.args.parted.now c.count.result c.ahead-from.result c.count-past.result
    c.requires.parts.1 c.count.ensures.value c.ahead-from.ensures c.count-past.ensures.value in
    omega (
      arith,
      rest.past_is,
      own-count (beyond (length c.args.parted.now.second) ys),
      ap (λ (a : ClockState g.row.C.Denot). a.first.place + a.second.place) c.self.view_is,
      c.requires.parts.2,
    )

pub observe_bits-requires-clause-keeps_up : goal.observe_bits-requires-clause-keeps_up
observe_bits-requires-clause-keeps_up g c =
    arrivals-keep_up g.C.Check.check (clock_state c.self.inside) c.self.invariant.arrivals c.reports_grow.ensures.more
    c.arrivals_are.ensures.grow c.settled_places.ensures.frames c.settled_places.ensures.paid
    c.settled_places.ensures.within c.self.invariant.reached
    (omega (
      arith,
      ap (λ (a : ClockState g.row.C.Denot). a.first.place + a.second.place) c.self.view_is,
      c.requires.parts.2,
    ))

pub observe_bits-requires-clause-room : goal.observe_bits-requires-clause-room
observe_bits-requires-clause-room g c =
    let ys = c.requires.parts.0 in
    let rest = is-rest ys c.args.parted.now c.count.result c.ahead-from.result c.count-past.result
    c.requires.parts.1 c.count.ensures.value c.ahead-from.ensures c.count-past.ensures.value in
    g.met.L.ReportObserver.has_less c.args.observer.now _ (c.count-past.result - c.ahead-from.result)
    (omega (arith, rest.past_is, own-count (beyond (length c.args.parted.now.second) ys))) c.requires.parts.3

abbrev next-state : (g : Over) (c : goal.After-observe_bits g) → ClockState g.row.C.Denot
next-state g c = record {
  first = c.observe_bits.new.decoder;
  second = c.self.inside.second;
  conversation = c.observe_bits.new.conversation;
  places = c.reach.new.self;
}

leads-on : (g : Over) (c : goal.After-observe_bits g) (ys : List Arrival) → Parts ys c.args.parted.now →
    AdvancesWatchShown (two_clocks g.C.Check.check) (clock_state c.self.inside)
    (beyond (length c.args.parted.now.second) ys) (next-state g c)
    (λ ss. g.L.ReportObserver.observes c.self.inside.conversation.dictionary c.args.observer.now c.args.out.now ss
    c.observe_bits.new.observer c.observe_bits.new.out)
leads-on g c ys parts =
    let p = c.args.parted.now in
    let zs = beyond (length p.second) ys in
    let rest = is-rest ys p c.count.result c.ahead-from.result c.count-past.result parts c.count.ensures.value
    c.ahead-from.ensures c.count-past.ensures.value in
    let some : 0 < length (own First zs) = omega (arith, rest.past_is, c.if-from-past.false) in
    let count : c.count-past.result - c.ahead-from.result ≡ length (own First zs) = omega (arith, rest.past_is) in
    let all : bits_from c.octets.result.now 0 (length (own First ys)) ≡ own First ys =
    rw (parts.first) at (c.octets.ensures.bits) in
    let bits : bits_from c.octets.result.now c.ahead-from.result (c.count-past.result - c.ahead-from.result)
    ≡ own First zs =
    rw (count, rest.from_is) (rest-bits First c.octets.result.now (length p.second) ys all) in
    let at : c.place.result + (c.count-past.result - c.ahead-from.result) - 1
    ≡ c.self.inside.first.place + length (own First zs) - 1 =
    omega (arith, count, c.place.ensures.value) in
    leads-followed g.C.Check.check (clock_state c.self.inside) (next-state g c) zs _ c.arrivals_are.ensures.grow
    c.arrivals_are.ensures.apart c.reports_grow.ensures.grow c.reports_are.ensures.are c.reports_are.ensures.within
    rest.alone some (rw bits at (c.observe_bits.ensures.observes)) refl
    (c.reach.ensures.value ∙ ap (λ k. record c.self.inside.places { reached = k }) at)

pub invariant_of-self : goal.invariant_of-self
invariant_of-self g c =
    let led = leads-on g c c.requires.parts.0 c.requires.parts.1 in
    record {
      depth = omega (arith, c.self.invariant.depth, led.sees.depth);
      arrivals = c.self.invariant.arrivals ++ beyond (length c.args.parted.now.second) c.requires.parts.0;
      reached = led.sees.is_after c.self.invariant.arrivals c.self.invariant.reached;
    }

pub returns-clause-told : goal.returns-clause-told
returns-clause-told g c = λ ys parts. rw (← c.self.view_is) (leads-on g c ys parts)

pub returns-clause-left : goal.returns-clause-left
returns-clause-left g c = λ ys parts more room.
    let rest = is-rest ys c.args.parted.now c.count.result c.ahead-from.result c.count-past.result parts
    c.count.ensures.value c.ahead-from.ensures c.count-past.ensures.value in
    let zs = beyond (length c.args.parted.now.second) ys in
    c.observe_bits.ensures.left more
    (g.met.L.ReportObserver.has_less c.args.observer.now (length zs + more)
    (c.count-past.result - c.ahead-from.result + more)
    (omega (arith, rest.past_is, own-count zs)) room)
