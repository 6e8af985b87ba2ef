use Rattle.std.proofs.Common.{◌≡◌, ◌+◌, ◌<◌, ◌∙◌, append-nil, ap, arith, w64}
use Rattle.std.specs.Int.{trailing_zeros}
use Rattle.bus_tap.proofs.BlockLemmas.{none-marked, tallied-block}
use Rattle.bus_tap.proofs.facts.Occurrences.note_block.Goals as goal
use Rattle.bus_tap.proofs.facts.Occurrences.note_block.Goals.{then-self-eq0, else-self-eq0}

pub returns-then-word-eq0-clause-tallied : goal.returns-then-word-eq0-clause-tallied
returns-then-word-eq0-clause-tallied c = λ es was.
    rw (c.if-word-eq0.true, none-marked c.args.from, append-nil es) was

pub returns-clause-tallied : goal.returns-clause-tallied
returns-clause-tallied c = λ es was.
    let old = c.args.self.now in
    let mid = c.if-self-eq0.self in
    let from = c.args.from in
    let is : (mid.count ≡ old.count) × (old.count ≡ 0 → mid.first ≡ from + trailing_zeros w64 c.args.word)
    × (0 < old.count → mid.first ≡ old.first) = elim c.if-self-eq0.branch [
      | then-self-eq0 w ↦ (
        ap (λ o. o.count) w.self-is,
        (λ none. ap (λ o. o.first) w.self-is ∙ ap (λ n. from + n) w.from.ensures),
        λ some. absurd (omega (arith, some, w.if-self-eq0.true)),
      )
      | else-self-eq0 w ↦ (
        ap (λ o. o.count) w.self-is,
        (λ none. absurd (w.if-self-eq0.false none)),
        λ some. ap (λ o. o.first) w.self-is,
      )
    ] in
    tallied-block old _ es from c.args.word (omega (arith, c.if-word-eq0.false)) c.ranges.word.fits was
    (omega (arith, is.0, c.from-3.ensures)) is.1 is.2 (ap (λ n. from + n) c.from-2.ensures)
