use Rattle.std.proofs.Common.{◌≡◌, ◌+◌, ◌∷◌, [], length, take, sym, ◌∙◌, arith, length-take}
use Rattle.bus_line.specs.declared.line.Line.TheVariants.{First}
use Rattle.bus_tap.specs.Arrival.{own}
use Rattle.bus_clocks.proofs.FeedLemmas.{arrival_at, count-more, first-own, second-own}
use Rattle.bus_clocks.proofs.RoomLemmas.{own-count}
use Rattle.bus_clocks.proofs.feed.count_first.Goals.{in-First, in-Second}
use Rattle.bus_clocks.proofs.feed.count_first.Goals as goal

pub overflow_add-count : goal.overflow_add-count
overflow_add-count c =
    let xs = c.args.arrivals.now in
    let i = c.loop-arrival.arrival-index in
    let one : c.match-arrival.count ≡ length (own First (arrival_at xs i ∷ [])) = elim c.match-arrival.branch [
      | in-First w ↦ w.count-is ∙ sym (first-own (arrival_at xs i) w.in-First.is)
      | in-Second w ↦ w.count-is ∙ sym (second-own (arrival_at xs i) w.in-Second.is)
    ] in
    omega (
      arith,
      one,
      c.loop-arrival.invariant,
      count-more First xs i c.loop-arrival-test.true,
      own-count (take (i + 1) xs),
      length-take (i + 1) xs,
      c.loop-arrival-test.true,
    )

pub loop-arrival-preserved : goal.loop-arrival-preserved
loop-arrival-preserved c =
    let xs = c.args.arrivals.now in
    let i = c.loop-arrival.arrival-index in
    let one : c.match-arrival.count ≡ length (own First (arrival_at xs i ∷ [])) = elim c.match-arrival.branch [
      | in-First w ↦ w.count-is ∙ sym (first-own (arrival_at xs i) w.in-First.is)
      | in-Second w ↦ w.count-is ∙ sym (second-own (arrival_at xs i) w.in-Second.is)
    ] in
    omega (arith, one, c.loop-arrival.invariant, count-more First xs i c.loop-arrival-test.true)
