use Rattle.std.proofs.Common.{refl, sym, ◌-◌, arith}
use Rattle.std.proofs.Math.Seq.{drop-nil}
use Rattle.bus_pairing.specs.declared.counts.Counts.{Counts}
use Rattle.bus_pairing.proofs.ConversationLemmas.{slice_get-replicate}
use Rattle.bus_pairing.proofs.TallyLemmas.{within-replicate}
use Rattle.std.proofs.lemmas.List.{length-replicate}
use Rattle.bus_pairing.proofs.conversation.Conversation.new.Goals as goal

pub returns-clause-keeps : goal.returns-clause-keeps
returns-clause-keeps c = record {
  history = rw (c.in_ok-history.ensures) (sym (drop-nil (0 - c.args.depth)));
  waiting = c.new.ensures;
  tally = λ station within. rw (c.no_counts.ensures) (slice_get-replicate 256 _ station within);
  copied = c.new-2.ensures;
  handled = rw (c.zero.ensures) refl;
}

pub invariant_of-result : goal.invariant_of-result
invariant_of-result c =
    let none : Counts = record { answered = 0; missing = 0; spoilt = 0; late = 0 } in
    record {
      stations = rw (c.no_counts.ensures) (length-replicate 256 none);
      counts = rw (c.no_counts.ensures) (within-replicate _ 256 none
          (omega arith, omega arith, omega arith, omega arith));
      depth = rw (c.in_ok-history.ensures) (c.requires);
    }
