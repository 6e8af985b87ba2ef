use Rattle.std.proofs.Common.{rules, ◌++◌, ◌∷◌, [], append-nil, sym, ap, ◌∙◌}
use Rattle.bus_tap.specs.Facts.{spacing}
use Rattle.bus_tap.proofs.FactsLemmas.{length-less, nothing-noted}
use Rattle.bus_tap.proofs.facts.LineFacts.note.Goals as goal

pub returns-then-rises-clause-facts : goal.returns-then-rises-clause-facts
returns-then-rises-clause-facts c = λ cs ls hs bs facts.
    let others = c.note_bit.ensures.others in
    rw (c.if-rises.true) (record {
      clock_changes = rw (others.0) (c.note.ensures.tallied cs facts.clock_changes);
      data_changes = rw (others.1) (c.note-2.ensures.tallied ls facts.data_changes);
      data_changes_high = rw (others.2) (c.note-3.ensures.tallied hs facts.data_changes_high);
      bits = c.note_bit.ensures.bits bs facts.bits;
      gap = c.note_bit.ensures.gap bs facts.bits facts.gap;
      jumps = c.note_bit.ensures.jumps bs facts.bits facts.step facts.jumps;
      step = c.note_bit.ensures.step bs facts.bits facts.step
          ∙ ap (spacing (bs ++ c.args.sample ∷ [])) (sym (length-less bs c.args.sample));
    })

pub returns-else-rises-clause-facts : goal.returns-else-rises-clause-facts
returns-else-rises-clause-facts c = λ cs ls hs bs facts. rw (c.if-rises.false, append-nil bs) (record {
  clock_changes = c.note.ensures.tallied cs facts.clock_changes;
  data_changes = c.note-2.ensures.tallied ls facts.data_changes;
  data_changes_high = c.note-3.ensures.tallied hs facts.data_changes_high;
  bits = facts.bits;
  gap = facts.gap;
  jumps = facts.jumps;
  step = facts.step;
})

pub returns-then-eq-clause-facts : goal.returns-then-eq-clause-facts
returns-then-eq-clause-facts c = λ cs ls hs bs facts.
    nothing-noted c.args.jump c.args.self.now cs ls hs bs c.args.sample c.args.before c.args.after (search rules) facts
