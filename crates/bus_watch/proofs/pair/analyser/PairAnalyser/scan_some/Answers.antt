use Rattle.std.proofs.Common.{◌≡◌, ◌+◌, ◌-◌, ◌*◌, ◌++◌, ℕ, List, Bool, length, length-append, zip, Option, Some, ap}
use Rattle.std.proofs.Common.{◌∙◌, subst, arith}
use Rattle.std.specs.Option.{is_some, option_to_list}
use Rattle.bus_bits.specs.Bits.{bits_from}
use Rattle.bus_bits.proofs.BitLemmas.{length-from}
use Rattle.bus_line.specs.LineReport.{seconds}
use Rattle.bus_pairing.specs.Seen.{SeenReport}
use Rattle.bus_watch.specs.Decodes.{newest, told_on}
use Rattle.bus_watch.specs.Internal.PairView.{pair_state}
use Rattle.bus_watch.specs.Pairs.{PairState, two_lines}
use Rattle.bus_watch.specs.Watch.{AdvancesWatchShown}
use Rattle.bus_line.specs.declared.line.Line.TheVariants.{Second}
use Rattle.bus_watch.proofs.DecodesLemmas.{keeps_up-room}
use Rattle.bus_watch.proofs.PairScanLemmas.{leads-scanned, pairs-keep_up}
use Rattle.bus_watch.proofs.pair.analyser.PairAnalyser.scan_some.Given.{Over}
use Rattle.bus_watch.proofs.MergedLemmas.{length-firsts}
use Rattle.bus_watch.proofs.pair.analyser.PairAnalyser.scan_some.Goals as goal

pub observe_bits-requires-clause-keeps_up : goal.observe_bits-requires-clause-keeps_up
observe_bits-requires-clause-keeps_up g c =
    let ps = c.self.invariant.pairs in
    let reached = c.self.invariant.reached in
    pairs-keep_up g.C.Check.check (pair_state c.self.inside) ps c.settled_places.ensures.frames
    c.settled_places.ensures.paid c.settled_places.ensures.within reached
    (omega (
      arith,
      ap (λ (a : PairState g.row.C.Denot). a.first.place) c.self.view_is,
      c.requires.places,
      reached.first.has_taken.place,
      length-firsts ps,
    ))

pub record-requires-clause-decided : goal.record-requires-clause-decided
record-requires-clause-decided g c =
    let b = seconds c.self.invariant.pairs in
    let n = c.in-Ok.scanned.count in
    let next = bits_from c.args.second.now c.args.from n in
    let bits = b ++ next in
    let led = c.in-Ok.ensures.advances.decides.leads in
    let last : length b + n - 1 ≡ length bits - 1 =
    omega (arith, length-append b next, length-from c.args.second.now c.args.from n) in
    record {
      bits = bits;
      due = rw (led.longest, led.origin, ← last) (c.in-Ok.ensures.answer b c.self.invariant.reached.second);
    }

pub record-requires-clause-room : goal.record-requires-clause-room
record-requires-clause-room g c =
    let n = c.in-Ok.scanned.count in
    keeps_up-room g.C.Check.check c.observe_bits.new.decoder c.observe_bits.new.conversation
    c.settled_places.ensures.frames c.settled_places.ensures.paid c.settled_places.ensures.within
    c.observe_bits.ensures.keeps_up
    (omega (
      arith,
      c.observe_bits.ensures.observes.led.place,
      length-from c.args.first.now c.args.from (c.args.from + n - c.args.from),
      c.in-Ok.ensures.count,
      ap (λ (a : PairState g.row.C.Denot). a.first.place) c.self.view_is,
      c.requires.places,
    ))

pub show-requires-clause-room : goal.show-requires-clause-room
show-requires-clause-room g c =
    let n = c.in-Ok.scanned.count in
    let most : ℕ = 2 * (c.args.end - c.args.from) in
    let left : ℕ = most - n in
    g.met.L.ReportObserver.has_less c.observe_bits.new.observer left 1
    (omega (arith, c.requires.some, c.in-Ok.ensures.count))
    (c.observe_bits.ensures.left left
    (g.met.L.ReportObserver.has_less c.args.observer.now most (c.args.from + n - c.args.from + left)
    (omega (arith, c.in-Ok.ensures.count)) c.requires.room))

pub returns-clause-left : goal.returns-clause-left
returns-clause-left g c =
    let n = c.in-Ok.scanned.count in
    let most : ℕ = 2 * (c.args.end - c.args.from) in
    let left : ℕ = most - n in
    let more : ℕ = 2 * (c.args.end - (c.args.from + n)) in
    c.show.ensures.left more
    (g.met.L.ReportObserver.has_less c.observe_bits.new.observer left (1 + more) (omega (arith, c.in-Ok.ensures.count))
    (c.observe_bits.ensures.left left
    (g.met.L.ReportObserver.has_less c.args.observer.now most (c.args.from + n - c.args.from + left)
    (omega (arith, c.in-Ok.ensures.count)) c.requires.room)))

-- what is seen of the second line's report, if there is one
abbrev last-seen : (g : Over) (c : goal.After-show g) → Option SeenReport
last-seen g c =
    told_on (Some Second) c.scan.new.self.octets (is_some c.in-Ok.scanned.event) c.record.new.conversation.last

abbrev next-state : (g : Over) (c : goal.After-show g) → PairState g.row.C.Denot
next-state g c =
    record { first = c.observe_bits.new.decoder; second = c.scan.new.self; conversation = c.record.new.conversation }

abbrev pairs-taken : (g : Over) (c : goal.After-show g) → List (Bool × Bool)
pairs-taken g c =
    let n = c.args.from + c.in-Ok.scanned.count - c.args.from in
    zip (bits_from c.args.first.now c.args.from n) (bits_from c.args.second.now c.args.from n)

leads-on : (g : Over) (c : goal.After-show g) (told : List SeenReport → Type 0) →
    told (c.observe_bits.ensures.observes.seen_now ++ option_to_list (last-seen g c))
    → AdvancesWatchShown (two_lines g.C.Check.check) (pair_state c.self.inside) (pairs-taken g c) (next-state g c) told
leads-on g c told all_told =
    let n = c.in-Ok.scanned.count in
    let all : c.args.from + n - c.args.from ≡ n = omega arith in
    let bits = bits_from c.args.second.now c.args.from n in
    let decoded = c.record.ensures c.self.inside.second bits c.in-Ok.ensures.advances in
    leads-scanned g.C.Check.check (pair_state c.self.inside) (next-state g c) c.observe_bits.new.conversation
    c.args.first.now c.args.second.now c.args.from (c.args.from + n - c.args.from) (last-seen g c) _ told
    c.reports_grow.ensures.stays c.reports_grow.ensures.more c.reports_grow.ensures.grow
    (omega (arith, c.in-Ok.ensures.count)) c.observe_bits.ensures.observes (rw all decoded) all_told

pub invariant_of-self : goal.invariant_of-self
invariant_of-self g c =
    let led = leads-on g c (λ ss. Unit {0}) tt in
    record {
      depth = omega (arith, c.self.invariant.depth, led.sees.depth);
      pairs = c.self.invariant.pairs ++ pairs-taken g c;
      reached = led.sees.is_after c.self.invariant.pairs c.self.invariant.reached;
    }

pub returns-clause-told : goal.returns-clause-told
returns-clause-told g c =
    let follows = c.observe_bits.ensures.observes in
    let bits = bits_from c.args.second.now c.args.from c.in-Ok.scanned.count in
    let decoded = c.record.ensures c.self.inside.second bits c.in-Ok.ensures.advances in
    let last = last-seen g c in
    let dictionary = c.dictionary.ensures ∙ (decoded.dictionary ∙ follows.dictionary) in
    let found = c.newest.ensures ∙ ap (λ is. newest is c.record.new.conversation.last) c.is_some.ensures in
    let told : g.L.ReportObserver.observes c.self.inside.conversation.dictionary c.observe_bits.new.observer
    c.observe_bits.new.out (option_to_list last) c.show.new.observer c.show.new.out =
    rw (← dictionary, ← found, ← c.octets.ensures.value) c.show.ensures.observed in
    subst (λ (a : PairState g.row.C.Denot). AdvancesWatchShown (two_lines g.C.Check.check) a (pairs-taken g c)
    (next-state g c)
    (λ ss. g.L.ReportObserver.observes a.conversation.dictionary c.args.observer.now c.args.out.now ss
    c.show.new.observer
    c.show.new.out)) c.self.view_is
    (leads-on g c _ (g.met.L.ReportObserver.observes_more c.self.inside.conversation.dictionary c.args.observer.now
    c.observe_bits.new.observer c.show.new.observer
    c.args.out.now c.observe_bits.new.out c.show.new.out follows.seen_now (option_to_list last) follows.told told))
