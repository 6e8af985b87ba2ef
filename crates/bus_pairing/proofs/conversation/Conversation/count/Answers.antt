use Rattle.std.proofs.Common.{arith, rules, get_or}
use Rattle.std.proofs.lemmas.Option.{slice_get-get_or}
use Rattle.bus_pairing.specs.declared.counts.Counts.{Counts}
use Rattle.bus_pairing.proofs.TallyLemmas.{counted-set, within-counted}
use Rattle.bus_pairing.proofs.conversation.Conversation.count.Goals as goal

pub invariant_of-self : goal.invariant_of-self
invariant_of-self c =
    let none : Counts = record { answered = 0; missing = 0; spoilt = 0; late = 0 } in
    let at = c.from-station.result in
    let tally = c.self.inside.tally in
    let counted = within-counted c.self.inside.spent.handled tally at c.in-Some.verdict.outcome (get_or tally at none)
    (slice_get-get_or tally at none (omega arith)) c.self.invariant.counts in
    record {
      stations = search rules;
      counts = rw (c.counted.ensures, c.tick_handled.ensures) counted;
      depth = c.self.invariant.depth;
    }

pub returns-in-Some-clause-tally : goal.returns-in-Some-clause-tally
returns-in-Some-clause-tally c =
    let none : Counts = record { answered = 0; missing = 0; spoilt = 0; late = 0 } in
    let verdict = c.in-Some.verdict in
    let tally = c.self.inside.tally in
    let counted = counted-set tally verdict (get_or tally verdict.station none)
    (slice_get-get_or tally verdict.station none (omega arith)) in
    rw (c.in-Some.is, ← c.self.view_is, c.counted.ensures, c.from-station.ensures) counted
