use Rattle.std.proofs.Common.{◌≡◌, ◌∙◌, true, append_assoc, arith}
use Rattle.bus_sample.proofs.MarksLemmas.{ones-more}
use Rattle.bus_sample.proofs.marks.Marks.put_ones.Goals as goal

pub loop-turn-preserved : goal.loop-turn-preserved
loop-turn-preserved c =
    let before = c.loop-turn.invariant in
    let more = c.put_mark.ensures in record {
      put = λ start now xs marked.
          rw (← ones-more c.loop-turn._turn (c.args.line, true), ← append_assoc)
          (more.put start now _ (c.args.line, true) c.mark.ensures (before.put start now xs marked));
      few = omega (arith, more.few, before.few);
      written = more.written ∙ before.written;
      stops = more.stops ∙ before.stops;
    }

pub returns-clause-put : goal.returns-clause-put
returns-clause-put c =
    let all : c.loop-turn._turn ≡ 15 = omega (arith, c.loop-turn-test.false, c.loop-turn.auto._turn-end) in
    λ start now xs marked. rw all at (c.loop-turn.invariant.put start now xs marked)
