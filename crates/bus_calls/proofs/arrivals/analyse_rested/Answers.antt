use Rattle.std.proofs.Common.{◌≡◌, ◌+◌, ◌-◌, ◌++◌, ℕ, Bool, List, zip, arith, ap, ◌∙◌, sym, subst}
use Rattle.std.proofs.Common.{append_assoc, append-nil}
use Rattle.std.proofs.lemmas.Result.{err_from_is_err_and}
use Rattle.bus_bits.specs.Bits.{bits_from}
use Rattle.bus_tap.proofs.ArrivalLemmas.{symbols-more}
use Rattle.bus_calls.specs.Internal.Arrivals.{arrivals_kind}
use Rattle.bus_calls.specs.Internal.Watching.{FeedAfter, FeedStopsWith}
use Rattle.bus_calls.proofs.WatchingLemmas.{same-both, same-self}
use Rattle.bus_calls.proofs.arrivals.analyse_rested.Goals as goal

module _ (bits lines : List ℕ) where
  -- so many of these symbols, and more behind them
  behind : (b : List (Bool × Bool)) (at n : ℕ) →
      (b ++ zip (bits_from bits 0 at) (bits_from lines 0 at)) ++ zip (bits_from bits at n) (bits_from lines at n)
      ≡ b ++ zip (bits_from bits 0 (at + n)) (bits_from lines 0 (at + n))
  behind b at n =
      let here : 0 + at ≡ at = omega arith in
      append_assoc b (zip (bits_from bits 0 at) (bits_from lines 0 at)) (zip (bits_from bits at n)
      (bits_from lines at n))
      ∙ ap (λ (xs : List (Bool × Bool)). b ++ xs) (sym (rw here at (symbols-more bits lines 0 at n)))

  none : (b : List (Bool × Bool)) → b ++ zip (bits_from bits 0 0) (bits_from lines 0 0) ≡ b
  unfolding bits_from
  none b = append-nil b

pub loop-taken-init : goal.loop-taken-init
loop-taken-init g c = record {
  within = omega arith;
  sound = c.requires.sound;
  same = same-self (arrivals_kind g.C.Check.check) c.args.run.now;
  fed = λ start b fed.
      subst (FeedAfter (arrivals_kind g.C.Check.check) start (g.W.Write.contents c.args.w.now) c.args.run.now)
      (sym (none c.args.bits.now c.args.lines.now b)) fed;
}

pub loop-taken-preserved : goal.loop-taken-preserved
loop-taken-preserved g c = record {
  within = omega (arith, c.loop-taken.invariant.within, c.in_ok-taken.ensures.within);
  sound = c.analyse_some.ensures.sound;
  same = same-both c.loop-taken.invariant.same c.analyse_some.ensures.same;
  fed = λ start b fed.
      subst (FeedAfter (arrivals_kind g.C.Check.check) start (g.W.Write.contents c.analyse_some.new.w)
      c.analyse_some.new.run)
      (behind c.args.bits.now c.args.lines.now b c.loop-taken.taken c.in_ok-taken.field-0)
      (c.in_ok-taken.ensures.taken start _ (c.loop-taken.invariant.fed start b fed));
}

pub returns-in_err-taken-clause-taken : goal.returns-in_err-taken-clause-taken
returns-in_err-taken-clause-taken g c =
    let failed = err_from_is_err_and c.from_residual.result c.from_residual.ensures.1 in
    rw (failed.1, failed.2) (λ start b fed.
    let taken = c.loop-taken.taken in
    let all : taken + (c.args.count - taken) ≡ c.args.count = omega (arith, c.loop-taken.invariant.within) in
    subst (λ (xs : List (Bool × Bool)). FeedStopsWith (arrivals_kind g.C.Check.check) start
    (g.W.Write.contents c.analyse_some.new.w) c.analyse_some.new.run xs c.in_err-taken.field-0.0)
    (behind c.args.bits.now c.args.lines.now b taken (c.args.count - taken)
    ∙ ap (λ (n : ℕ). b ++ zip (bits_from c.args.bits.now 0 n) (bits_from c.args.lines.now 0 n)) all)
    (c.in_err-taken.ensures.taken start _ (c.loop-taken.invariant.fed start b fed)))

pub returns-clause-taken : goal.returns-clause-taken
returns-clause-taken g c = λ start b fed.
    let all : c.loop-taken.taken ≡ c.args.count = omega (
      arith,
      c.loop-taken.invariant.within,
      c.loop-taken-test.false,
    ) in
    rw (← all) (c.loop-taken.invariant.fed start b fed)
