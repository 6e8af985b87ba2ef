use Rattle.std.proofs.Common.{ℕ, List, [], ◌++◌, codes, Err, refl, subst}
use Rattle.std.proofs.lemmas.Result.{err_from_is_err_and}
use Rattle.bus_text.specs.Pages.{Puts}
use Rattle.bus_text.specs.Show.{frame_text}
use Rattle.bus_text.specs.HeadText.{head_text}
use Rattle.bus_text.proofs.KnownBytesLemmas.{appends_nothing}
use Rattle.bus_text.proofs.ShowLemmas.{cut_more}
use Rattle.bus_text.proofs.show.put.put_front.Goals as goal

pub returns-clause-put : goal.returns-clause-put
returns-clause-put g c =
    let start = g.W.Write.contents c.args.w.now in
    let now = g.W.Write.contents c.put_line-2.new.w in
    let first = c.in_ok-sent.ensures.put start [] (appends_nothing start) refl in
    let both = c.put_line-2.ensures.put start c.frame_line.result.items first.0 first.1 in
    let framed = subst (λ (l : List ℕ). Puts start now (l ++ c.head_line.result.items) c.put_line-2.result)
    c.frame_line.ensures both in
    subst (λ (l : List ℕ). Puts start now (frame_text c.args.octets.now ++ l) c.put_line-2.result) c.head_line.ensures
    framed

pub returns-in_err-sent-clause-put : goal.returns-in_err-sent-clause-put
returns-in_err-sent-clause-put g c =
    let failed = err_from_is_err_and c.from_residual.result c.from_residual.ensures.1 in
    let start = g.W.Write.contents c.args.w.now in
    let now = g.W.Write.contents c.put_line.new.w in
    let front = subst (λ (l : List ℕ). Puts start now l (Err c.in_err-sent.field-0.0)) c.frame_line.ensures
    (c.in_err-sent.ensures.put start [] (appends_nothing start) refl) in
    rw (failed.1, failed.2) (cut_more start now (frame_text c.args.octets.now)
    (head_text c.args.standing c.args.dictionary.now ++ codes "\n") c.in_err-sent.field-0.0 front)
