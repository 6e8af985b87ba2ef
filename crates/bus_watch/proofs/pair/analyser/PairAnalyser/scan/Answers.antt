use Rattle.std.proofs.Common.{◌≡◌, ◌+◌, ◌-◌, ◌*◌, ◌^◌, ℕ, min, zip, ◌∙◌, subst, arith}
use Rattle.bus_bits.specs.Bits.{bits_from}
use Rattle.bus_bits.proofs.OctetLemmas.{least}
use Rattle.bus_watch.specs.Watch.{AdvancesWatchShown}
use Rattle.bus_watch.specs.Pairs.{two_lines}
use Rattle.bus_watch.proofs.PairScanLemmas.{leads-further, leads-nowhere, length-zipped, zip-met}
use Rattle.bus_watch.proofs.pair.analyser.PairAnalyser.scan.Goals as goal

pub loop-at-init : goal.loop-at-init
loop-at-init g c = record {
  within = omega arith;
  told =
      leads-nowhere g.C.Check.check c.args.self.now c.args.first.now c.args.second.now _
      (g.met.L.ReportObserver.observes_none c.args.self.now.conversation.dictionary c.args.observer.now c.args.out.now);
  room = g.met.L.ReportObserver.has_less c.args.observer.now
      (2 * min c.args.count (2 ^ 60 - c.args.self.now.first.place)) (2 * (c.min-end.result - 0))
      (omega (
        arith,
        c.min-end.ensures ∙ least c.args.count (2 ^ 60 - c.place-places.result),
        c.place-places.ensures.value,
      )) c.requires.room;
}

pub scan_some-at-requires-clause-places : goal.scan_some-at-requires-clause-places
scan_some-at-requires-clause-places g c = omega (
  arith,
  c.loop-at.invariant.told.sees.place,
  length-zipped c.args.first.now c.args.second.now 0 c.loop-at.at,
  c.place-places.ensures.value,
  c.place-places.ensures.fits,
  c.min-end.ensures ∙ least c.args.count (2 ^ 60 - c.place-places.result),
  c.loop-at-test.true,
)

pub loop-at-preserved : goal.loop-at-preserved
loop-at-preserved g c =
    let scanned = c.scan_some-at in
    let i = c.loop-at.at in
    let n : ℕ = scanned.result - i in
    let met : i + n ≡ scanned.result = omega (arith, scanned.ensures.within.0) in
    let before = c.loop-at.invariant.told in
    let last = scanned.ensures.told in
    let dictionary = before.sees.dictionary in
    record {
      within = scanned.ensures.within.1;
      told =
          subst (λ (k : ℕ). AdvancesWatchShown (two_lines g.C.Check.check) c.args.self.now
          (zip (bits_from c.args.first.now 0 k) (bits_from c.args.second.now 0 k)) scanned.new.self
          (λ ss. g.L.ReportObserver.observes c.args.self.now.conversation.dictionary c.args.observer.now c.args.out.now
          ss
          scanned.new.observer scanned.new.out)) met
          (rw (zip-met c.args.first.now c.args.second.now i n)
          (leads-further (two_lines g.C.Check.check) c.args.self.now c.loop-at.self scanned.new.self _ _
          _ _ _ before last
          (λ ss ts first next. g.met.L.ReportObserver.observes_more c.args.self.now.conversation.dictionary
          c.args.observer.now c.loop-at.observer scanned.new.observer
          c.args.out.now c.loop-at.out scanned.new.out ss ts first
          (subst (λ d. g.L.ReportObserver.observes d c.loop-at.observer c.loop-at.out ts scanned.new.observer
          scanned.new.out) dictionary next))));
      room = scanned.ensures.left;
    }
