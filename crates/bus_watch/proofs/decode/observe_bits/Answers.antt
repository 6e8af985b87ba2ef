use Rattle.std.proofs.Common.{◌≡◌, ◌+◌, ◌-◌, ◌++◌, ℕ, length, length-append, refl, ap, ◌∙◌, arith}
use Rattle.std.specs.Option.{is_some, option_to_list}
use Rattle.bus_bits.specs.Bits.{bits_from}
use Rattle.bus_bits.proofs.BitLemmas.{length-from}
use Rattle.bus_watch.specs.Decodes.{newest, told_on}
use Rattle.bus_watch.proofs.DecodesLemmas.{bits-met, bits-none, decodes-nothing, decodes-more, keeps_up-more}
use Rattle.bus_watch.proofs.DecodesLemmas.{keeps_up-room}
use Rattle.bus_watch.proofs.decode.observe_bits.Goals as goal

pub loop-at-init : goal.loop-at-init
loop-at-init g c = record {
  some = omega arith;
  within = c.requires.some;
  reports = rw (bits-none c.args.octets.now c.args.from)
      (decodes-nothing g.C.Check.check c.args.line c.args.decoder.now c.args.conversation.now
      _
      (g.met.L.ReportObserver.observes_none c.args.conversation.now.dictionary c.args.observer.now c.args.out.now));
  left = λ more room. room;
  keeps_up = c.requires.keeps_up;
}

pub record-requires-clause-decided : goal.record-requires-clause-decided
record-requires-clause-decided g c =
    let keeps_up = c.loop-at.invariant.keeps_up in
    let n = c.in-Ok.scanned.count in
    let led = c.in-Ok.ensures.advances.decides.leads in
    let next = bits_from c.args.octets.now c.loop-at.at n in
    let bits = keeps_up.bits ++ next in
    let last : length keeps_up.bits + n - 1 ≡ length bits - 1 =
    omega (arith, length-append keeps_up.bits next, length-from c.args.octets.now c.loop-at.at n) in
    record {
      bits = bits;
      due = rw (led.longest, led.origin, ← last)
          (c.in-Ok.ensures.answer keeps_up.bits keeps_up.after);
    }

pub record-requires-clause-room : goal.record-requires-clause-room
record-requires-clause-room g c =
    keeps_up-room g.C.Check.check c.loop-at.decoder c.loop-at.conversation
    c.settled_places.ensures.frames c.settled_places.ensures.paid c.settled_places.ensures.within
    c.loop-at.invariant.keeps_up (omega (arith, c.in-Ok.ensures.fits))

pub unreachable-requires : goal.unreachable-requires
unreachable-requires g c =
    let full = c.in-Err.ensures.limit.0 refl in
    omega (
      arith,
      full,
      c.loop-at.invariant.reports.led.place,
      length-from c.args.octets.now c.args.from (c.loop-at.at - c.args.from),
      c.loop-at.invariant.some,
      c.loop-at-test.true,
      c.requires.places,
    )

pub show-requires-clause-room : goal.show-requires-clause-room
show-requires-clause-room g c =
    g.met.L.ReportObserver.has_less c.loop-at.observer (c.args.past - c.loop-at.at + 0) 1
    (omega (arith, c.loop-at-test.true))
    (c.loop-at.invariant.left 0
    (g.met.L.ReportObserver.has_less c.args.observer.now (c.args.past - c.args.from) (c.args.past - c.args.from + 0)
    (omega arith) c.requires.room))

pub loop-at-preserved : goal.loop-at-preserved
loop-at-preserved g c =
    let view = g.C.Check.check in
    let line = c.args.line in
    let n = c.in-Ok.scanned.count in
    let i = c.loop-at.at in
    let before = c.loop-at.invariant in
    let new = c.scan.new.self in
    let after = c.record.new.conversation in
    let bits = bits_from c.args.octets.now i n in
    let decoded = c.record.ensures c.loop-at.decoder bits c.in-Ok.ensures.advances in
    let last = told_on line new.octets (is_some c.in-Ok.scanned.event) after.last in
    let dictionary = c.dictionary.ensures ∙ (decoded.dictionary ∙ before.reports.dictionary) in
    let found = c.newest.ensures ∙ ap (λ is. newest is after.last) c.is_some.ensures in
    let told : g.L.ReportObserver.observes c.args.conversation.now.dictionary c.loop-at.observer c.loop-at.out
    (option_to_list last) c.show.new.observer c.show.new.out =
    rw (← dictionary, ← found, ← c.octets.ensures.value) c.show.ensures.observed in
    record {
      some = omega (arith, before.some);
      within = omega (arith, c.in-Ok.ensures.count.1, c.loop-at-test.true);
      reports = rw (bits-met c.args.octets.now c.args.from i n before.some)
          (decodes-more view line c.args.decoder.now c.loop-at.decoder new c.args.conversation.now
          c.loop-at.conversation after
          (bits_from c.args.octets.now c.args.from (i - c.args.from)) bits last _ _
          (omega (arith, length-from c.args.octets.now i n, c.in-Ok.ensures.count.0)) before.reports decoded
          (g.met.L.ReportObserver.observes_more c.args.conversation.now.dictionary c.args.observer.now
          c.loop-at.observer
          c.show.new.observer c.args.out.now c.loop-at.out c.show.new.out before.reports.seen_now (option_to_list last)
          before.reports.told told));
      left = λ more room.
          let left : ℕ = c.args.past - (i + n) + more in
          c.show.ensures.left left
          (g.met.L.ReportObserver.has_less c.loop-at.observer (c.args.past - i + more) (1 + left)
          (omega (arith, c.in-Ok.ensures.count, c.loop-at-test.true)) (before.left more room));
      keeps_up = keeps_up-more view line c.loop-at.decoder new c.loop-at.conversation after bits last before.keeps_up
          decoded;
    }

pub returns-clause-observes : goal.returns-clause-observes
returns-clause-observes g c =
    let whole : c.loop-at.at ≡ c.args.past = omega (arith, c.loop-at-test.false, c.loop-at.invariant.within) in
    rw (← whole) c.loop-at.invariant.reports
