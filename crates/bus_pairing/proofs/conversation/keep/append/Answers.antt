use Rattle.std.proofs.Common.{◌≡◌, ◌∙◌, ap, refl, map}
use Rattle.bus_pairing.specs.History.{KeptFrame, kept_pair}
use Rattle.bus_pairing.specs.declared.pair_kept.PairKept.{PairKept}
use Rattle.bus_pairing.proofs.ConversationLemmas.{keep-frame}
use Rattle.bus_pairing.proofs.conversation.keep.append.Goals as goal

pub returns-clause-items : goal.returns-clause-items
returns-clause-items c =
    let ring = c.args.ring.now in
    let frame : PairKept = record { line = c.args.line; kept = c.copy_frame.new.self } in
    let shown : KeptFrame = record { line = c.args.line; span = c.args.span; octets = c.args.octets.now } in
    let is : kept_pair frame ≡ shown = rw (c.copy_frame.ensures.span, c.copy_frame.ensures.octets) refl in
    ap (map kept_pair) (c.next_place-place.ensures.items frame) ∙ keep-frame ring.capacity ring.items frame shown is
