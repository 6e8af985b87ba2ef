use Rattle.std.proofs.Common.{◌≡◌, List, Some, None, ap, ◌∙◌, subst, slice_get}
use Rattle.bus_line.specs.Due.{placed}
use Rattle.bus_dictionary.specs.Dictionary.{longest_of}
use Rattle.bus_pairing.specs.History.{KeptFrame, kept_frame}
use Rattle.bus_pairing.specs.Shown.{kept_pair_option}
use Rattle.bus_pairing.proofs.ConversationLemmas.{history-at}
use Rattle.bus_watch.specs.After.{AnalyserState}
use Rattle.bus_watch.proofs.analyser.Analyser.history.Goals as goal

pub returns-in-Some-clause-lent : goal.returns-in-Some-clause-lent
returns-in-Some-clause-lent g c =
    let d = c.self.inside.decoder in
    let j = c.self.inside.conversation in
    let at = subst (λ r. kept_pair_option r ≡ slice_get j.history c.args.i) c.in-Some.is c.kept.ensures in
    rw (c.frame.ensures)
    (subst (λ (a : AnalyserState g.row.C.Denot). Some (kept_frame c.in-Some.kept.now.kept)
    ≡ slice_get a.conversation.history c.args.i) c.self.view_is
    (history-at j.history j.depth (placed d.origin (longest_of j.dictionary) c.self.invariant.bits) c.args.i
    c.in-Some.kept.now c.self.invariant.reached.conversation.history at))

pub returns-in-None-clause-lent : goal.returns-in-None-clause-lent
returns-in-None-clause-lent g c =
    let kept = c.self.inside.conversation.history in
    let at = subst (λ r. kept_pair_option r ≡ slice_get kept c.args.i) c.in-None.is c.kept.ensures in
    subst (λ (a : AnalyserState g.row.C.Denot). None ≡ slice_get a.conversation.history c.args.i) c.self.view_is at

pub returns-in-Some-clause-value : goal.returns-in-Some-clause-value
returns-in-Some-clause-value g c = λ _ reached. returns-in-Some-clause-lent g c
    ∙ ap (λ (l : List KeptFrame). slice_get l c.args.i) reached.conversation.history

pub returns-in-None-clause-value : goal.returns-in-None-clause-value
returns-in-None-clause-value g c = λ _ reached. returns-in-None-clause-lent g c
    ∙ ap (λ (l : List KeptFrame). slice_get l c.args.i) reached.conversation.history
