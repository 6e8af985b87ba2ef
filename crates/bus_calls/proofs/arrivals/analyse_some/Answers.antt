use Rattle.std.proofs.Common.{◌≡◌, ◌+◌, ◌-◌, ◌++◌, [], ◌∷◌, ℕ, Bool, List, Ok, Err, map, zip, true, false, arith, ap}
use Rattle.std.proofs.Common.{◌∙◌}
use Rattle.std.proofs.Common.{sym, subst, refl, append_assoc, append-nil}
use Rattle.std.proofs.lemmas.Result.{err_from_is_err_and}
use Rattle.bus_bits.specs.Bits.{bits_from}
use Rattle.bus_tap.specs.Arrival.{Arrival, arrival_of, arrivals_from}
use Rattle.bus_tap.specs.Rested.{fill, rested, IsRestAfter, RestState}
use Rattle.bus_calls.specs.Internal.Arrivals.{RestsAfter, arrivals_kind}
use Rattle.bus_calls.specs.Internal.Watching.{WatchAfter, WatchStopsWith}
use Rattle.bus_calls.proofs.ArrivalsLemmas.{rests-more, stops-among, symbols-taken, watched-behind}
use Rattle.bus_calls.proofs.WatchingLemmas.{halts-more}
use Rattle.bus_calls.proofs.arrivals.analyse_some.Goals as goal

-- the bits that bring rest
held : arrivals_from (255 ∷ 255 ∷ []) (255 ∷ 255 ∷ []) 0 (15 - 0) ≡ fill true
unfolding bits_from
held = refl

-- so many arrivals from one on
counted : (from n : ℕ) → from + n - from ≡ n
counted from n = omega arith

module _ (bits lines : List ℕ) (from n : ℕ) (r : RestState) (comes : Bool) (b : List (Bool × Bool)) where
  abbrev front : List Arrival
  front = rested r.most (map arrival_of b)

  abbrev come : List Arrival
  come = arrivals_from bits lines from n

  -- the rule stands after the symbols that are taken
  stands : (q : RestState) → q.most ≡ r.most → IsRestAfter r (map arrival_of b) →
      ((xs : List Arrival) → IsRestAfter r xs → rested r.most (xs ++ come) ≡ rested r.most xs ++ (come ++ fill comes)) →
      ((xs : List Arrival) → IsRestAfter r xs → IsRestAfter q (xs ++ come)) →
      RestsAfter q (b ++ zip (bits_from bits from n) (bits_from lines from n)) (front ++ (come ++ fill comes))
  stands q most before rested after =
      rests-more r q b (zip (bits_from bits from n) (bits_from lines from n)) come (come ++ fill comes) most refl
      (rested (map arrival_of b) before) (after (map arrival_of b) before)

  -- those that bring rest are behind them
  filled : comes ≡ true →
      (front ++ come) ++ arrivals_from (255 ∷ 255 ∷ []) (255 ∷ 255 ∷ []) 0 (15 - 0) ≡ front ++ (come ++ fill comes)
  filled is =
      append_assoc front come (arrivals_from (255 ∷ 255 ∷ []) (255 ∷ 255 ∷ []) 0 (15 - 0))
      ∙ ap (λ (xs : List Arrival). front ++ (come ++ xs)) (held ∙ ap fill (sym is))

  unfilled : comes ≡ false → front ++ come ≡ front ++ (come ++ fill comes)
  unfilled none =
      ap (λ (xs : List Arrival). front ++ xs) (sym (append-nil come) ∙ ap (λ is. come ++ fill is) (sym none))

pub returns-in_err-analyse_arrivals-clause-taken : goal.returns-in_err-analyse_arrivals-clause-taken
returns-in_err-analyse_arrivals-clause-taken g c =
    let failed = err_from_is_err_and c.from_residual.result c.from_residual.ensures.1 in
    rw (failed.1, failed.2) (λ start b fed.
    let view = g.C.Check.check in
    let kind = arrivals_kind view in
    let bits = c.args.bits.now in
    let lines = c.args.lines.now in
    let from = c.args.from in
    let r = c.args.run.now.analyser.rest in
    let n = c.push_some-count.result.0 in
    let comes = c.push_some-count.result.1 in
    let f = c.in_err-analyse_arrivals.field-0.0 in
    let run = c.analyse_arrivals.new.run in
    let now = g.W.Write.contents c.analyse_arrivals.new.w in
    let ahead = front bits lines from n r comes b in
    let ys = come bits lines from n r comes b in
    let stopped : WatchStopsWith kind start now run (ahead ++ ys) f =
    subst (λ (k : ℕ). WatchStopsWith kind start now run (ahead ++ arrivals_from bits lines from k) f) (counted from n)
    (c.in_err-analyse_arrivals.ensures.taken start ahead (watched-behind view refl refl fed.bits)) in
    stops-among view bits lines from c.args.end n c.push_some-count.ensures.within.1 c.laws.ensures start now run b f
    (symbols-taken view start now run {b = b ++ zip (bits_from bits from n) (bits_from lines from n)} (Err f)
    (rw (c.analyse_arrivals.ensures.rule)
    (stands bits lines from n r comes b c.push_some-count.new.self c.push_some-count.ensures.most fed.rule
    c.push_some-count.ensures.rested c.push_some-count.ensures.after))
    (subst (λ (zs : List Arrival). WatchStopsWith kind start now run zs f) (append_assoc ahead ys (fill comes))
    (halts-more kind start now run (ahead ++ ys) (fill comes) f stopped))))

pub returns-in_err-analyse_arrivals-2-clause-taken : goal.returns-in_err-analyse_arrivals-2-clause-taken
returns-in_err-analyse_arrivals-2-clause-taken g c =
    let failed = err_from_is_err_and c.from_residual-in_err-analyse_arrivals-2.result
    c.from_residual-in_err-analyse_arrivals-2.ensures.1 in
    rw (failed.1, failed.2) (λ start b fed.
    let view = g.C.Check.check in
    let kind = arrivals_kind view in
    let bits = c.args.bits.now in
    let lines = c.args.lines.now in
    let from = c.args.from in
    let r = c.args.run.now.analyser.rest in
    let n = c.push_some-count.result.0 in
    let comes = c.push_some-count.result.1 in
    let f = c.in_err-analyse_arrivals-2.field-0.0 in
    let run = c.analyse_arrivals-then-comes.new.run in
    let now = g.W.Write.contents c.analyse_arrivals-then-comes.new.w in
    let ahead = front bits lines from n r comes b in
    let ys = come bits lines from n r comes b in
    let followed = subst (λ (k : ℕ). WatchAfter kind start (g.W.Write.contents c.analyse_arrivals.new.w)
    c.analyse_arrivals.new.run (ahead ++ arrivals_from bits lines from k)) (counted from n)
    (c.in_ok-analyse_arrivals.ensures.taken start ahead (watched-behind view refl refl fed.bits)) in
    stops-among view bits lines from c.args.end n c.push_some-count.ensures.within.1 c.laws.ensures start now run b f
    (symbols-taken view start now run {b = b ++ zip (bits_from bits from n) (bits_from lines from n)} (Err f)
    (rw (c.analyse_arrivals-then-comes.ensures.rule, c.analyse_arrivals.ensures.rule)
    (stands bits lines from n r comes b c.push_some-count.new.self c.push_some-count.ensures.most fed.rule
    c.push_some-count.ensures.rested c.push_some-count.ensures.after))
    (subst (λ (zs : List Arrival). WatchStopsWith kind start now run zs f)
    (filled bits lines from n r comes b c.if-comes.true)
    (c.in_err-analyse_arrivals-2.ensures.taken start (ahead ++ ys) followed))))

pub returns-in_ok-analyse_arrivals-2-clause-taken : goal.returns-in_ok-analyse_arrivals-2-clause-taken
returns-in_ok-analyse_arrivals-2-clause-taken g c = λ start b fed.
    let view = g.C.Check.check in
    let kind = arrivals_kind view in
    let bits = c.args.bits.now in
    let lines = c.args.lines.now in
    let from = c.args.from in
    let r = c.args.run.now.analyser.rest in
    let n = c.push_some-count.result.0 in
    let comes = c.push_some-count.result.1 in
    let run = c.analyse_arrivals-then-comes.new.run in
    let now = g.W.Write.contents c.analyse_arrivals-then-comes.new.w in
    let ahead = front bits lines from n r comes b in
    let ys = come bits lines from n r comes b in
    let followed = subst (λ (k : ℕ). WatchAfter kind start (g.W.Write.contents c.analyse_arrivals.new.w)
    c.analyse_arrivals.new.run (ahead ++ arrivals_from bits lines from k)) (counted from n)
    (c.in_ok-analyse_arrivals.ensures.taken start ahead (watched-behind view refl refl fed.bits)) in
    symbols-taken view start now run (Ok tt)
    (rw (c.analyse_arrivals-then-comes.ensures.rule, c.analyse_arrivals.ensures.rule)
    (stands bits lines from n r comes b c.push_some-count.new.self c.push_some-count.ensures.most fed.rule
    c.push_some-count.ensures.rested c.push_some-count.ensures.after))
    (subst (WatchAfter kind start now run) (filled bits lines from n r comes b c.if-comes.true)
    (c.in_ok-analyse_arrivals-2.ensures.taken start (ahead ++ ys) followed))

pub returns-else-comes-clause-taken : goal.returns-else-comes-clause-taken
returns-else-comes-clause-taken g c = λ start b fed.
    let view = g.C.Check.check in
    let kind = arrivals_kind view in
    let bits = c.args.bits.now in
    let lines = c.args.lines.now in
    let from = c.args.from in
    let r = c.args.run.now.analyser.rest in
    let n = c.push_some-count.result.0 in
    let comes = c.push_some-count.result.1 in
    let run = c.analyse_arrivals.new.run in
    let now = g.W.Write.contents c.analyse_arrivals.new.w in
    let ahead = front bits lines from n r comes b in
    symbols-taken view start now run (Ok tt)
    (rw (c.analyse_arrivals.ensures.rule)
    (stands bits lines from n r comes b c.push_some-count.new.self c.push_some-count.ensures.most fed.rule
    c.push_some-count.ensures.rested c.push_some-count.ensures.after))
    (subst (WatchAfter kind start now run) (unfilled bits lines from n r comes b c.if-comes.false)
    (subst (λ (k : ℕ). WatchAfter kind start now run (ahead ++ arrivals_from bits lines from k)) (counted from n)
    (c.in_ok-analyse_arrivals.ensures.taken start ahead (watched-behind view refl refl fed.bits))))
