use Rattle.std.proofs.Common.{◌≡◌, ◌+◌, ◌-◌, ◌++◌, List, length, refl, ap, ◌∙◌, subst, arith, Some, Option}
use Rattle.std.specs.Option.{option_to_list}
use Rattle.bus_bits.proofs.BitLemmas.{length-from}
use Rattle.bus_pairing.specs.Seen.{SeenReport}
use Rattle.bus_line.specs.declared.line.Line.TheVariants.{First, Second}
use Rattle.bus_tap.specs.Arrival.{Arrival, own}
use Rattle.bus_watch.specs.Decodes.{DecodesMany, told_on}
use Rattle.bus_watch.specs.Watch.{AdvancesWatchShown}
use Rattle.bus_watch.proofs.DecodesLemmas.{keeps_up-room}
use Rattle.bus_clocks.specs.Clocks.{ClockState, two_clocks}
use Rattle.bus_clocks.specs.Internal.ClockView.{clock_state}
use Rattle.bus_clocks.specs.Internal.Parts.{Parts, beyond, upto}
use Rattle.bus_clocks.proofs.MiddleLemmas.{is-stretch, stretch-firsts}
use Rattle.bus_clocks.proofs.PartsLemmas.{count-beyond}
use Rattle.bus_clocks.proofs.PushLemmas.{whole-located}
use Rattle.bus_clocks.proofs.RoomLemmas.{own-count}
use Rattle.bus_clocks.proofs.ScannedLemmas.{scanned-of, whole-scanned}
use Rattle.bus_clocks.proofs.StretchLemmas.{arrivals-keep_up, leads-scanned}
use Rattle.bus_clocks.proofs.analyser.TwoClockAnalyser.scan_some.Given.{Over}
use Rattle.bus_clocks.proofs.analyser.TwoClockAnalyser.scan_some.Goals as goal

pub scan_noted-scanned-requires-clause-places : goal.scan_noted-scanned-requires-clause-places
scan_noted-scanned-requires-clause-places g c =
    let ys = c.requires.parts.0 in
    let total = ap length c.requires.parts.1.second in
    omega (
      arith,
      c.requires.parts.2,
      ap (λ (a : ClockState g.row.C.Denot). a.first.place + a.second.place) c.self.view_is,
      own-count (beyond c.args.from ys),
      count-beyond c.args.from ys (omega (arith, c.requires.some, total)),
      c.requires.some,
      total,
    )

pub overflow_add-past : goal.overflow_add-past
overflow_add-past g c =
    let parts = c.requires.parts.1 in
    omega (
      arith,
      c.scan_noted-scanned.ensures.count.1,
      ap length parts.second,
      own-count c.requires.parts.0,
      parts.few,
    )

pub observe_bits-requires-clause-some : goal.observe_bits-requires-clause-some
observe_bits-requires-clause-some g c =
    let ys = c.requires.parts.0 in
    let parts = c.requires.parts.1 in
    let some = is-stretch ys parts c.requires.some refl c.scan_noted-scanned.ensures.count
    (c.ahead-ahead.ensures ys parts) (c.ahead.ensures ys parts) in
    omega (arith, some.past_is)

pub observe_bits-requires-clause-enough : goal.observe_bits-requires-clause-enough
observe_bits-requires-clause-enough g c =
    let ys = c.requires.parts.0 in
    let parts = c.requires.parts.1 in
    let some = is-stretch ys parts c.requires.some refl c.scan_noted-scanned.ensures.count
    (c.ahead-ahead.ensures ys parts) (c.ahead.ensures ys parts) in
    omega (arith, some.within, c.octets.ensures.enough)

pub observe_bits-requires-clause-places : goal.observe_bits-requires-clause-places
observe_bits-requires-clause-places g c =
    let ys = c.requires.parts.0 in
    let parts = c.requires.parts.1 in
    let some = is-stretch ys parts c.requires.some refl c.scan_noted-scanned.ensures.count
    (c.ahead-ahead.ensures ys parts) (c.ahead.ensures ys parts) in
    omega (
      arith,
      some.past_is,
      some.size,
      some.fits,
      c.requires.parts.2,
      ap (λ (a : ClockState g.row.C.Denot). a.first.place + a.second.place) c.self.view_is,
    )

pub observe_bits-requires-clause-keeps_up : goal.observe_bits-requires-clause-keeps_up
observe_bits-requires-clause-keeps_up g c =
    arrivals-keep_up g.C.Check.check (clock_state c.self.inside) c.self.invariant.arrivals c.reports_grow.ensures.more
    c.arrivals_are.ensures.grow c.settled_places.ensures.frames c.settled_places.ensures.paid
    c.settled_places.ensures.within c.self.invariant.reached
    (omega (
      arith,
      ap (λ (a : ClockState g.row.C.Denot). a.first.place + a.second.place) c.self.view_is,
      c.requires.parts.2,
    ))

pub observe_bits-requires-clause-room : goal.observe_bits-requires-clause-room
observe_bits-requires-clause-room g c =
    let ys = c.requires.parts.0 in
    let parts = c.requires.parts.1 in
    let some = is-stretch ys parts c.requires.some refl c.scan_noted-scanned.ensures.count
    (c.ahead-ahead.ensures ys parts) (c.ahead.ensures ys parts) in
    g.met.L.ReportObserver.has_less c.args.observer.now _ (c.ahead.result - c.ahead-ahead.result)
    (omega (arith, some.past_is, some.size, some.fits)) c.requires.parts.3

pub enter-is_decided-requires-clause-whole : goal.enter-is_decided-requires-clause-whole
enter-is_decided-requires-clause-whole g c =
    let ys = c.requires.parts.0 in
    let parts = c.requires.parts.1 in
    let some = is-stretch ys parts c.requires.some refl c.scan_noted-scanned.ensures.count
    (c.ahead-ahead.ensures ys parts) (c.ahead.ensures ys parts) in
    let xs = c.self.invariant.arrivals in
    let reached = c.self.invariant.reached in
    let scanned = scanned-of ys xs parts some reached c.scan_noted-scanned.ensures
    (c.standing_behind-standing.ensures.taken (own First xs) reached.first) c.standing_behind-standing.ensures.origin
    c.standing_behind-standing.ensures.ahead in
    whole-located _ c.scan_noted-scanned.result.event c.located_option-event.result c.octets-octets.result.now
    c.located_option-event.ensures.located
    (whole-scanned c.reports_are.ensures.due c.frame_is_spelled.ensures scanned (own Second xs) reached.second _
    c.octets-octets.ensures.value)

pub enter-is_decided-requires-clause-room : goal.enter-is_decided-requires-clause-room
enter-is_decided-requires-clause-room g c =
    let ys = c.requires.parts.0 in
    let parts = c.requires.parts.1 in
    let some = is-stretch ys parts c.requires.some refl c.scan_noted-scanned.ensures.count
    (c.ahead-ahead.ensures ys parts) (c.ahead.ensures ys parts) in
    keeps_up-room g.C.Check.check c.observe_bits.new.decoder c.observe_bits.new.conversation
    c.settled_places.ensures.frames c.settled_places.ensures.paid c.settled_places.ensures.within
    c.observe_bits.ensures.keeps_up
    (omega (
      arith,
      c.observe_bits.ensures.observes.led.place,
      length-from c.octets.result.now c.ahead-ahead.result (c.ahead.result - c.ahead-ahead.result),
      some.past_is,
      some.size,
      some.fits,
      c.requires.parts.2,
      ap (λ (a : ClockState g.row.C.Denot). a.first.place + a.second.place) c.self.view_is,
    ))

pub show-requires-clause-room : goal.show-requires-clause-room
show-requires-clause-room g c =
    let ys = c.requires.parts.0 in
    let parts = c.requires.parts.1 in
    let some = is-stretch ys parts c.requires.some refl c.scan_noted-scanned.ensures.count
    (c.ahead-ahead.ensures ys parts) (c.ahead.ensures ys parts) in
    c.observe_bits.ensures.left 1
    (g.met.L.ReportObserver.has_less c.args.observer.now _ (c.ahead.result - c.ahead-ahead.result + 1)
    (omega (arith, some.past_is, some.size, some.fits, c.scan_noted-scanned.ensures.count.0))
    c.requires.parts.3)

abbrev next-state : (g : Over) (c : goal.After-show g) → ClockState g.row.C.Denot
next-state g c = record {
  first = c.observe_bits.new.decoder;
  second = c.scan_noted-scanned.new.second;
  conversation = c.enter-is_decided.new.conversation;
  places = c.scan_noted-scanned.new.places;
}

-- what is seen of the second line's report, if there is one
abbrev last-seen : (g : Over) (c : goal.After-show g) → Option SeenReport
last-seen g c =
    told_on (Some Second) c.scan_noted-scanned.new.second.octets c.enter-is_decided.result
    c.enter-is_decided.new.conversation.last

leads-on : (g : Over) (c : goal.After-show g) (ys : List Arrival) → Parts ys c.args.parted.now →
    AdvancesWatchShown (two_clocks g.C.Check.check) (clock_state c.self.inside)
    (upto c.scan_noted-scanned.result.count (beyond c.args.from ys)) (next-state g c)
    (λ ss. g.L.ReportObserver.observes c.self.inside.conversation.dictionary c.args.observer.now c.args.out.now ss
    c.show.new.observer c.show.new.out)
leads-on g c ys parts =
    let some = is-stretch ys parts c.requires.some refl c.scan_noted-scanned.ensures.count
    (c.ahead-ahead.ensures ys parts) (c.ahead.ensures ys parts) in
    let asked = is-stretch c.requires.parts.0 c.requires.parts.1 c.requires.some refl
    c.scan_noted-scanned.ensures.count (c.ahead-ahead.ensures c.requires.parts.0 c.requires.parts.1)
    (c.ahead.ensures c.requires.parts.0 c.requires.parts.1) in
    let zs = upto c.scan_noted-scanned.result.count (beyond c.args.from ys) in
    let xs = c.self.invariant.arrivals in
    let reached = c.self.invariant.reached in
    let scanned = scanned-of ys xs parts some reached c.scan_noted-scanned.ensures
    (c.standing_behind-standing.ensures.taken (own First xs) reached.first) c.standing_behind-standing.ensures.origin
    c.standing_behind-standing.ensures.ahead in
    let bits = stretch-firsts c.octets.result.now c.args.parted.now ys c.args.from
    c.scan_noted-scanned.result.count _ _ parts
    some c.octets.ensures.bits in
    let first = subst (λ b. DecodesMany g.C.Check.check (Some First) c.self.inside.first c.self.inside.conversation b
    c.observe_bits.new.decoder c.observe_bits.new.conversation
    (λ ss. g.L.ReportObserver.observes c.self.inside.conversation.dictionary c.args.observer.now c.args.out.now ss
    c.observe_bits.new.observer c.observe_bits.new.out)) bits c.observe_bits.ensures.observes in
    let dictionary = c.dictionary.ensures ∙ (c.enter-is_decided.ensures.dictionary ∙ first.dictionary) in
    let last = last-seen g c in
    let told : g.L.ReportObserver.observes c.self.inside.conversation.dictionary c.observe_bits.new.observer
    c.observe_bits.new.out (option_to_list last) c.show.new.observer c.show.new.out =
    rw (← dictionary, ← c.newest.ensures, ← c.octets-octets.ensures.value) c.show.ensures.observed in
    leads-scanned g.C.Check.check (clock_state c.self.inside) (next-state g c) c.observe_bits.new.conversation zs
    c.scan_noted-scanned.result.event c.located_option-event.result last _ c.arrivals_are.ensures.grow
    c.arrivals_are.ensures.apart
    c.reports_grow.ensures.grow c.reports_are.ensures.are c.reports_are.ensures.within c.reports_are.ensures.due
    (omega (
      arith,
      some.past_is,
      asked.past_is,
      asked.size,
      asked.fits,
      c.requires.parts.2,
      ap (λ (a : ClockState g.row.C.Denot). a.first.place + a.second.place) c.self.view_is,
    )) scanned first c.located_option-event.ensures.located
    (rw (c.octets-octets.ensures.value) at (c.enter-is_decided.ensures)) _
    (g.met.L.ReportObserver.observes_more c.self.inside.conversation.dictionary c.args.observer.now
    c.observe_bits.new.observer c.show.new.observer c.args.out.now c.observe_bits.new.out c.show.new.out
    first.seen_now (option_to_list last) first.told told)

pub invariant_of-self : goal.invariant_of-self
invariant_of-self g c =
    let led = leads-on g c c.requires.parts.0 c.requires.parts.1 in
    record {
      depth = omega (arith, c.self.invariant.depth, led.sees.depth);
      arrivals = c.self.invariant.arrivals
          ++ upto c.scan_noted-scanned.result.count (beyond c.args.from c.requires.parts.0);
      reached = led.sees.is_after c.self.invariant.arrivals c.self.invariant.reached;
    }

pub returns-clause-told : goal.returns-clause-told
returns-clause-told g c = λ ys parts.
    let all : c.args.from + c.scan_noted-scanned.result.count - c.args.from
    ≡ c.scan_noted-scanned.result.count = omega arith in
    rw (all, ← c.self.view_is) (leads-on g c ys parts)

pub returns-clause-left : goal.returns-clause-left
returns-clause-left g c = λ ys parts more room.
    let some = is-stretch ys parts c.requires.some refl c.scan_noted-scanned.ensures.count
    (c.ahead-ahead.ensures ys parts) (c.ahead.ensures ys parts) in
    let all : c.args.from + c.scan_noted-scanned.result.count - c.args.from
    ≡ c.scan_noted-scanned.result.count = omega arith in
    let here : g.L.ReportObserver.has_room c.args.observer.now
    (length (upto c.scan_noted-scanned.result.count (beyond c.args.from ys)) + more) = rw all at room in
    c.show.ensures.left more
    (c.observe_bits.ensures.left (1 + more)
    (g.met.L.ReportObserver.has_less c.args.observer.now _ (c.ahead.result - c.ahead-ahead.result + (1 + more))
    (omega (arith, some.past_is, some.size, c.scan_noted-scanned.ensures.count.0)) here))
