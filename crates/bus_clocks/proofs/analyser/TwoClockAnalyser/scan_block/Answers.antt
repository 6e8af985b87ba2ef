use Rattle.std.proofs.Common.{◌≡◌, ◌+◌, ◌-◌, ◌++◌, [], length, length-append, sym, ap, ◌∙◌, subst, arith}
use Rattle.bus_watch.specs.Watch.{AdvancesWatchShown}
use Rattle.bus_watch.proofs.FedLemmas.{leads-nil}
use Rattle.bus_watch.proofs.PairScanLemmas.{leads-further}
use Rattle.bus_tap.specs.Arrival.{arrivals_from}
use Rattle.bus_tap.proofs.ArrivalLemmas.{length-arrivals}
use Rattle.bus_clocks.specs.Clocks.{two_clocks}
use Rattle.bus_clocks.specs.Internal.Parts.{beyond, upto}
use Rattle.bus_clocks.proofs.PartsLemmas.{upto-beyond, upto-more}
use Rattle.bus_clocks.proofs.analyser.TwoClockAnalyser.scan_block.Goals as goal

pub loop-taken-init : goal.loop-taken-init
loop-taken-init g c = record {
  within = omega arith;
  told = record {
    seen = [];
    sees = leads-nil (two_clocks g.C.Check.check) c.args.self.now;
    few = omega arith;
    told =
        g.met.L.ReportObserver.observes_none c.args.self.now.conversation.dictionary c.args.observer.now c.args.out.now;
  };
  left = λ more room. g.met.L.ReportObserver.has_less c.args.observer.now _ more (omega arith) room;
}

pub scan_some-taken-requires-clause-parts : goal.scan_some-taken-requires-clause-parts
scan_some-taken-requires-clause-parts g c =
    let xs = arrivals_from c.args.bits.now c.args.lines.now c.args.from c.args.count in
    let size = length-arrivals c.args.bits.now c.args.lines.now c.args.from c.args.count in
    let t = c.loop-taken.taken in
    let before = c.loop-taken.invariant in
    let sizes : c.args.count ≡ length (upto t xs) + length (beyond t xs) =
    sym size ∙ (sym (ap length (upto-beyond t xs)) ∙ length-append (upto t xs) (beyond t xs)) in (
      xs,
      c.part-parted.ensures,
      omega (arith, before.told.sees.place, c.requires.places, sizes),
      before.left (length (beyond t xs))
          (subst (g.L.ReportObserver.has_room c.args.observer.now) sizes c.requires.room),
    )

pub loop-taken-preserved : goal.loop-taken-preserved
loop-taken-preserved g c =
    let xs = arrivals_from c.args.bits.now c.args.lines.now c.args.from c.args.count in
    let size = length-arrivals c.args.bits.now c.args.lines.now c.args.from c.args.count in
    let t = c.loop-taken.taken in
    let r = c.scan_some-taken.result in
    let now = c.scan_some-taken.new in
    let before = c.loop-taken.invariant in
    let zs = upto (r - t) (beyond t xs) in
    let sum : t + (r - t) ≡ r = omega (arith, c.scan_some-taken.ensures.within.0) in
    let whole : upto r xs ≡ upto t xs ++ zs = ap (λ k. upto k xs) (sym sum) ∙ upto-more t (r - t) xs in
    record {
      within = c.scan_some-taken.ensures.within.1;
      told = rw whole
          (leads-further (two_clocks g.C.Check.check) c.args.self.now c.loop-taken.self now.self (upto t xs) zs _ _ _
          before.told (c.scan_some-taken.ensures.told xs c.part-parted.ensures)
          (λ ss ts first next. g.met.L.ReportObserver.observes_more c.args.self.now.conversation.dictionary
          c.args.observer.now c.loop-taken.observer now.observer c.args.out.now c.loop-taken.out now.out ss ts first
          (subst (λ d. g.L.ReportObserver.observes d c.loop-taken.observer c.loop-taken.out ts now.observer now.out)
          before.told.sees.dictionary next)));
      left = λ more room.
          let sizes : length (upto r xs) + more ≡ length (upto t xs) + (length zs + more) =
          omega (arith, ap length whole, length-append (upto t xs) zs) in
          c.scan_some-taken.ensures.left xs c.part-parted.ensures more
          (before.left (length zs + more) (subst (g.L.ReportObserver.has_room c.args.observer.now) sizes room));
    }

pub follow-requires : goal.follow-requires
follow-requires g c =
    let xs = arrivals_from c.args.bits.now c.args.lines.now c.args.from c.args.count in
    let size = length-arrivals c.args.bits.now c.args.lines.now c.args.from c.args.count in
    let t = c.loop-taken.taken in
    let n = length c.part-parted.result.second in
    let before = c.loop-taken.invariant in
    let all : t ≡ n = omega (arith, before.within, c.loop-taken-test.false, c.count.ensures.value) in
    let sizes : c.args.count ≡ length (upto t xs) + length (beyond n xs) =
    sym size ∙ (sym (ap length (ap (λ k. upto k xs ++ beyond n xs) all ∙ upto-beyond n xs))
    ∙ length-append (upto t xs) (beyond n xs)) in
    record {
      parts = (
        xs,
        c.part-parted.ensures,
        omega (arith, before.told.sees.place, c.requires.places, sizes),
        before.left (length (beyond n xs))
            (subst (g.L.ReportObserver.has_room c.args.observer.now) sizes c.requires.room),
      );
    }

pub returns-clause-told : goal.returns-clause-told
returns-clause-told g c =
    let xs = arrivals_from c.args.bits.now c.args.lines.now c.args.from c.args.count in
    let size = length-arrivals c.args.bits.now c.args.lines.now c.args.from c.args.count in
    let t = c.loop-taken.taken in
    let n = length c.part-parted.result.second in
    let now = c.follow.new in
    let before = c.loop-taken.invariant in
    let all : t ≡ n = omega (arith, before.within, c.loop-taken-test.false, c.count.ensures.value) in
    subst (λ zs. AdvancesWatchShown (two_clocks g.C.Check.check) c.args.self.now zs now.self
    (λ ss. g.L.ReportObserver.observes c.args.self.now.conversation.dictionary c.args.observer.now c.args.out.now ss
    now.observer now.out)) (ap (λ k. upto k xs ++ beyond n xs) all ∙ upto-beyond n xs)
    (leads-further (two_clocks g.C.Check.check) c.args.self.now c.loop-taken.self now.self (upto t xs) (beyond n xs)
    _ _ _ before.told (c.follow.ensures.told xs c.part-parted.ensures)
    (λ ss ts first next. g.met.L.ReportObserver.observes_more c.args.self.now.conversation.dictionary
    c.args.observer.now c.loop-taken.observer now.observer c.args.out.now c.loop-taken.out now.out ss ts first
    (subst (λ d. g.L.ReportObserver.observes d c.loop-taken.observer c.loop-taken.out ts now.observer now.out)
    before.told.sees.dictionary next)))

pub returns-clause-left : goal.returns-clause-left
returns-clause-left g c = λ more room.
    let xs = arrivals_from c.args.bits.now c.args.lines.now c.args.from c.args.count in
    let size = length-arrivals c.args.bits.now c.args.lines.now c.args.from c.args.count in
    let t = c.loop-taken.taken in
    let n = length c.part-parted.result.second in
    let before = c.loop-taken.invariant in
    let all : t ≡ n = omega (arith, before.within, c.loop-taken-test.false, c.count.ensures.value) in
    let sizes : c.args.count + more ≡ length (upto t xs) + (length (beyond n xs) + more) =
    omega (
      arith,
      size,
      ap length (ap (λ k. upto k xs ++ beyond n xs) all ∙ upto-beyond n xs),
      length-append (upto t xs) (beyond n xs),
    ) in
    c.follow.ensures.left xs c.part-parted.ensures more
    (before.left (length (beyond n xs) + more) (subst (g.L.ReportObserver.has_room c.args.observer.now) sizes room))
