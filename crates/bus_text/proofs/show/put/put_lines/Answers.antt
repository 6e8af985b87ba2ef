use Rattle.std.proofs.Common.{◌≡◌, ℕ, ◌-◌, ◌≤◌, List, ◌++◌, length, take, drop, codes, Ok, Err, sym, ap, ◌∙◌, subst}
use Rattle.std.proofs.Common.{arith}
use Rattle.std.proofs.lemmas.Grind.{common_steps}
use Rattle.std.proofs.lemmas.Result.{err_from_is_err_and}
use Rattle.std.specs.List.{flat_map}
use Rattle.bus_dictionary.specs.Standing.{standing}
use Rattle.bus_dictionary.specs.declared.standing.Standing.{Standing}
use Rattle.bus_text.specs.Pages.{Puts}
use Rattle.bus_text.specs.Show.{frame_text, names_text, name_text, bit_lines}
use Rattle.bus_text.specs.HeadText.{head_text}
use Rattle.bus_text.proofs.ShowLemmas.{cut_more, names_few, known_size, shown_front, shown_alone, no_names}
use Rattle.bus_text.proofs.show.put.put_lines.Goals as goal

pub returns-in_err-sent : goal.returns-in_err-sent
returns-in_err-sent g c =
    let failed = err_from_is_err_and c.from_residual.result c.from_residual.ensures.1 in
    let start = g.W.Write.contents c.args.w.now in
    let now = g.W.Write.contents c.put_front.new.w in
    let octets = c.args.octets.now in
    let d = c.args.dictionary.now in
    let front =
    subst (λ (s : Standing). Puts start now (frame_text octets ++ (head_text s d ++ codes "\n"))
    (Err c.in_err-sent.field-0.0)) c.read-standing.ensures.value c.in_err-sent.ensures.put in
    rw (failed.1, failed.2)
    (subst (λ (l : List ℕ). Puts start now l (Err c.in_err-sent.field-0.0)) (sym (shown_front octets d))
    (cut_more start now (frame_text octets ++ (head_text (standing octets d) d ++ codes "\n"))
    (names_text (standing octets d) octets d) c.in_err-sent.field-0.0 front))

pub returns-in_default : goal.returns-in_default
returns-in_default g c =
    let start = g.W.Write.contents c.args.w.now in
    let now = g.W.Write.contents c.put_front.new.w in
    let octets = c.args.octets.now in
    let d = c.args.dictionary.now in
    let front =
    subst (λ (s : Standing). Puts start now (frame_text octets ++ (head_text s d ++ codes "\n"))
    (Ok c.in_ok-sent.sent)) c.read-standing.ensures.value c.in_ok-sent.ensures.put in
    subst (λ (l : List ℕ). Puts start now l (Ok c.in_ok-sent.sent))
    (shown_alone octets d
    (no_names (standing octets d) octets d
    (λ st ftype is. c.in_default.not-Known st ftype (c.read-standing.ensures.value ∙ is)))) front

pub set_names-requires : goal.set_names-requires
set_names-requires g c = known_size c.args.octets.now c.args.dictionary.now c.in-Known.station c.in-Known.ftype
    c.in-Some.entry.now c.in-Known.ensures.meaning c.in-Some.ensures

pub put_names-requires-clause-few : goal.put_names-requires-clause-few
put_names-requires-clause-few g c =
    let octets = c.args.octets.now in
    let few = names_few c.in-Some.entry.now.size c.set_names.result c.set_names.ensures.kept in
    let size = known_size octets c.args.dictionary.now c.in-Known.station c.in-Known.ftype c.in-Some.entry.now
    c.in-Known.ensures.meaning c.in-Some.ensures in
    let rest : length (take (length octets - 2 - 3) (drop 3 octets)) ≤ 253 =
    grind (arith, common_steps, c.requires.at_most) in
    omega (arith, few, size, rest)

pub returns-in-Some : goal.returns-in-Some
returns-in-Some g c =
    let start = g.W.Write.contents c.args.w.now in
    let now = g.W.Write.contents c.put_names.new.w in
    let octets = c.args.octets.now in
    let d = c.args.dictionary.now in
    let text = frame_text octets ++ (head_text (standing octets d) d ++ codes "\n") in
    let front =
    subst (λ (s : Standing). Puts start (g.W.Write.contents c.put_front.new.w)
    (frame_text octets ++ (head_text s d ++ codes "\n")) (Ok c.in_ok-sent.sent)) c.read-standing.ensures.value
    c.in_ok-sent.ensures.put in
    let put = c.put_names.ensures.put start text front.0 front.1 in
    let names : flat_map name_text c.set_names.result ≡ names_text (standing octets d) octets d =
    ap (flat_map name_text) c.set_names.ensures.value
    ∙ (ap (bit_lines octets) c.in-Some.ensures
    ∙ ap (λ (s : Standing). names_text s octets d) c.in-Known.ensures.value) in
    subst (λ (l : List ℕ). Puts start now l c.put_names.result)
    (ap (λ (l : List ℕ). text ++ l) names ∙ sym (shown_front octets d)) put
