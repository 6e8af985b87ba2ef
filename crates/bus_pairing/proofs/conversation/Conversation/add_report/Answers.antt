use Rattle.std.proofs.Common.{rules}
use Rattle.bus_pairing.proofs.ConversationLemmas.{enters, no-frame}
use Rattle.bus_pairing.proofs.conversation.Conversation.add_report.Goals as goal

pub returns-in-Frame : goal.returns-in-Frame
returns-in-Frame c = record {
  enters = enters _ _ _ _ (let pairing = c.judge.ensures.advances in search rules) (record {
    dictionary = search rules;
    depth = search rules;
    history = search rules;
    tally = search rules;
    copied = search rules;
    handled = search rules;
  });
}

pub returns-in_default : goal.returns-in_default
returns-in_default c =
    let no_frame = no-frame c.args.octets.now c.args.event.kind c.in_default.not-Frame in
    record {
      enters = enters _ _ _ _ (let pairing = c.judge.ensures.advances in search rules) (record {
        dictionary = search rules;
        depth = search rules;
        history = search rules;
        tally = search rules;
        copied = search rules;
        handled = search rules;
      });
    }
