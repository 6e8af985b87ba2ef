use Rattle.std.proofs.Common.{◌+◌, ◌≤◌, ◌^◌, ap, arith}
use Rattle.bus_bits.specs.declared.spent.Spent.{Spent}
use Rattle.bus_watch.specs.Pairs.{PairState}
use Rattle.bus_watch.specs.Internal.PairView.{pair_state}
use Rattle.bus_watch.proofs.PairLemmas.{pair-ledger, pair-four, pair-three, pair-seventeen, both-within}
use Rattle.bus_watch.proofs.pair.analyser.PairAnalyser.spent.Given.{Over}
use Rattle.bus_watch.proofs.pair.analyser.PairAnalyser.spent.Goals as goal
use Rattle.bus_watch.proofs.pair.analyser.PairAnalyser.spent.Goals.{After-spent-conversation}

-- no sum overflows
within : (g : Over) (c : After-spent-conversation g) → let d = c.spent-first.result in let e = c.spent-second.result in
    (d.shifted + e.shifted ≤ 2 ^ 61) × (d.assembled + e.assembled ≤ 2 ^ 61) × (d.folded + e.folded ≤ 2 ^ 61)
    × (d.stored + e.stored ≤ 2 ^ 61)
within g c =
    let reached = c.self.invariant.reached in
    let most = both-within g.C.Check.check (pair_state c.self.inside) c.self.invariant.pairs
    c.spent-first.result c.spent-second.result c.settled_places.ensures.paid c.settled_places.ensures.within
    g.met.C.Check.cost_in_range.1 reached (c.spent-first.ensures.ledger _ reached.first)
    (c.spent-second.ensures.ledger _ reached.second) in
    let few : (pair_state c.self.inside).first.place ≤ 2 ^ 60 = omega (
      arith,
      ap (λ (a : PairState g.row.C.Denot). a.first.place) c.self.view_is,
      c.place-places.ensures.value,
      c.place-places.ensures.fits,
    ) in
    (omega (arith, most.0, few), omega (arith, most.1, few), omega (arith, most.2, few), omega (arith, most.3, few))

pub overflow_add-result : goal.overflow_add-result
overflow_add-result g c = omega (arith, (within g (goal.at.overflow_add-result g c).After-spent-conversation).0)

pub overflow_add-result-2 : goal.overflow_add-result-2
overflow_add-result-2 g c = omega (arith, (within g (goal.at.overflow_add-result-2 g c).After-spent-conversation).1)

pub overflow_add-result-3 : goal.overflow_add-result-3
overflow_add-result-3 g c = omega (arith, (within g (goal.at.overflow_add-result-3 g c).After-spent-conversation).2)

pub overflow_add-result-4 : goal.overflow_add-result-4
overflow_add-result-4 g c = omega (arith, (within g (goal.at.overflow_add-result-4 g c).After-spent-conversation).3)

pub returns-clause-ledger : goal.returns-clause-ledger
returns-clause-ledger g c = λ ps reached.
    let inside = rw (← c.self.view_is) at reached in
    rw (← c.self.view_is)
    (pair-ledger g.C.Check.check (pair_state c.self.inside) ps c.spent-first.result
    c.spent-second.result c.spent-conversation.result inside
    (c.spent-first.ensures.ledger _ inside.first) (c.spent-second.ensures.ledger _ inside.second)
    (ap (λ (x : Spent). x.copied) c.spent-conversation.ensures)
    (ap (λ (x : Spent). x.handled) c.spent-conversation.ensures))

pub returns-clause-four : goal.returns-clause-four
returns-clause-four g c = λ ps reached.
    pair-four g.C.Check.check.cost _ ps _ c.steps_are_bounded.ensures.four g.met.C.Check.cost_in_range.1
    (returns-clause-ledger g c ps reached)

pub returns-clause-three : goal.returns-clause-three
returns-clause-three g c = λ cheap ps reached.
    pair-three _ ps _ c.steps_are_bounded.ensures.three (rw cheap at (returns-clause-ledger g c ps reached))

pub returns-clause-seventeen : goal.returns-clause-seventeen
returns-clause-seventeen g c = λ ps reached. pair-seventeen ps _ (returns-clause-four g c ps reached)
