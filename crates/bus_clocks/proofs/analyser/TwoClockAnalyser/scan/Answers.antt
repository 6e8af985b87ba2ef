use Rattle.std.proofs.Common.{◌≡◌, ◌+◌, ◌-◌, ◌≤◌, [], ◌∙◌, subst, arith}
use Rattle.bus_bits.proofs.OctetLemmas.{least}
use Rattle.bus_watch.proofs.FedLemmas.{leads-nil}
use Rattle.bus_watch.proofs.PairScanLemmas.{leads-further}
use Rattle.bus_tap.specs.Arrival.{arrivals_from}
use Rattle.bus_tap.proofs.ArrivalLemmas.{arrivals-more, arrivals-none, length-arrivals}
use Rattle.bus_clocks.specs.Clocks.{two_clocks}
use Rattle.bus_clocks.proofs.analyser.TwoClockAnalyser.scan.Goals as goal

pub loop-taken-init : goal.loop-taken-init
loop-taken-init g c = record {
  within = omega arith;
  told = rw (arrivals-none c.args.bits.now c.args.lines.now c.args.from) (record {
    seen = [];
    sees = leads-nil (two_clocks g.C.Check.check) c.args.self.now;
    few = omega arith;
    told =
        g.met.L.ReportObserver.observes_none c.args.self.now.conversation.dictionary c.args.observer.now c.args.out.now;
  });
  room = g.met.L.ReportObserver.has_less c.args.observer.now _ (c.min-count.result - 0)
      (omega (
        arith,
        c.min-count.ensures ∙ least (c.args.end - c.args.from) c.saturating_sub-places.result,
        c.saturating_sub-places.ensures,
        c.place_on.ensures.value,
        c.place_on-2.ensures.value,
      )) c.requires.room;
}

pub scan_block-requires-clause-room : goal.scan_block-requires-clause-room
scan_block-requires-clause-room g c =
    g.met.L.ReportObserver.has_less c.loop-taken.observer (c.min-count.result - c.loop-taken.taken) c.min-some.result
    (omega (arith, c.min-some.ensures ∙ least 512 (c.min-count.result - c.loop-taken.taken)))
    c.loop-taken.invariant.room

pub scan_block-requires-clause-places : goal.scan_block-requires-clause-places
scan_block-requires-clause-places g c = omega (
  arith,
  c.loop-taken.invariant.told.sees.place,
  length-arrivals c.args.bits.now c.args.lines.now c.args.from c.loop-taken.taken,
  c.min-some.ensures ∙ least 512 (c.min-count.result - c.loop-taken.taken),
  c.min-count.ensures ∙ least (c.args.end - c.args.from) c.saturating_sub-places.result,
  c.saturating_sub-places.ensures,
  c.place_on.ensures.value,
  c.place_on-2.ensures.value,
  c.loop-taken-test.true,
)

pub loop-taken-preserved : goal.loop-taken-preserved
loop-taken-preserved g c =
    let taken = c.loop-taken.taken in
    let k = c.min-some.result in
    let bits = c.args.bits.now in
    let lines = c.args.lines.now in
    let from = c.args.from in
    let block = arrivals_from bits lines (from + taken) k in
    let before = c.loop-taken.invariant in
    let now = c.scan_block.new in
    let few : k ≤ c.min-count.result - taken = omega (
      arith,
      c.min-some.ensures ∙ least 512
          (c.min-count.result - taken),
    ) in
    let left : c.min-count.result - taken ≡ k + (c.min-count.result - (taken + k)) =
    omega (arith, few, c.loop-taken-test.true) in
    record {
      within = omega (arith, few, c.loop-taken-test.true);
      told = rw (arrivals-more bits lines from taken k)
          (leads-further (two_clocks g.C.Check.check) c.args.self.now c.loop-taken.self now.self
          (arrivals_from bits lines from taken) block
          _ _ _ before.told c.scan_block.ensures.told
          (λ ss ts first next. g.met.L.ReportObserver.observes_more c.args.self.now.conversation.dictionary
          c.args.observer.now c.loop-taken.observer now.observer c.args.out.now c.loop-taken.out now.out ss ts first
          (subst (λ d. g.L.ReportObserver.observes d c.loop-taken.observer c.loop-taken.out ts now.observer now.out)
          before.told.sees.dictionary next)));
      room = c.scan_block.ensures.left (c.min-count.result - (taken + k))
          (subst (g.L.ReportObserver.has_room c.loop-taken.observer) left before.room);
    }

pub returns-clause-told : goal.returns-clause-told
returns-clause-told g c =
    let all : c.loop-taken.taken ≡ c.min-count.result =
    omega (arith, c.loop-taken.invariant.within, c.loop-taken-test.false) in
    rw (← all) c.loop-taken.invariant.told
