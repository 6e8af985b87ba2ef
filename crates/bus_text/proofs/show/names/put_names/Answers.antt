use Rattle.std.proofs.Common.{◌≡◌, ℕ, List, [], ◌∷◌, ◌++◌, length, Err, sym, ap, ◌∙◌, subst, arith, append_assoc}
use Rattle.std.proofs.Common.{append-nil, length-append}
use Rattle.std.proofs.lemmas.Result.{err_from_is_err_and}
use Rattle.std.specs.List.{flat_map}
use Rattle.std.specs.Io.KnownBytes.{Appends}
use Rattle.bus_dictionary.specs.BitName.{NamedBit, named_bit}
use Rattle.bus_text.specs.Pages.{Puts}
use Rattle.bus_text.specs.Show.{name_text}
use Rattle.bus_text.proofs.ShowLemmas.{cut_more, names_text_at}
use Rattle.bus_text.proofs.show.names.put_names.Goals as goal

pub loop-name-init : goal.loop-name-init
loop-name-init g c = (
  tt,
  tt,
  (
    [],
    c.into_iter-name-iterator.ensures.into_iter_gives,
    omega arith,
    λ start before out is.
        let same : before ++ [] ≡ before = append-nil before in (
          subst (λ (l : List ℕ). Appends start (g.W.Write.contents c.args.w.now) l) (sym same) out,
          is ∙ ap length (sym same),
        ),
  ),
)

pub put_line-requires : goal.put_line-requires
put_line-requires g c =
    let so_far = c.loop-name.invariant.2 in
    omega (
      arith,
      so_far.2,
      c.requires.sent,
      c.requires.few,
      ap length so_far.1,
      length-append so_far.0 c.loop-name.name-iterator,
    )

pub returns-in_err-written : goal.returns-in_err-written
returns-in_err-written g c =
    let failed = err_from_is_err_and c.from_residual.result c.from_residual.ensures.1 in
    rw (failed.1, failed.2) (record {
      put = λ start before out is.
          let so_far = c.loop-name.invariant.2 in
          let b = named_bit c.in-Some.name in
          let front = before ++ flat_map name_text so_far.0 in
          let now = so_far.3 start before out is in
          let names : so_far.0 ++ b ∷ c.next.new.self ≡ c.args.names =
          ap (λ (l : List NamedBit). so_far.0 ++ l) (sym c.in-Some.ensures.steps) ∙ so_far.1 in
          let text = ap (λ (l : List NamedBit). before ++ flat_map name_text l) (sym names)
          ∙ names_text_at before so_far.0 c.next.new.self b in
          let put =
          subst (λ (l : List ℕ). Puts start (g.W.Write.contents c.put_line.new.w) (front ++ l)
          (Err c.in_err-written.field-0.0)) c.name_line.ensures
          (c.in_err-written.ensures.put start front now.0 now.1) in
          subst (λ (l : List ℕ). Puts start (g.W.Write.contents c.put_line.new.w) l (Err c.in_err-written.field-0.0))
          (sym text) (cut_more start (g.W.Write.contents c.put_line.new.w) (front ++ name_text b)
          (flat_map name_text c.next.new.self) c.in_err-written.field-0.0 put);
    })

pub loop-name-preserved : goal.loop-name-preserved
loop-name-preserved g c =
    let so_far = c.loop-name.invariant.2 in
    let b = named_bit c.in-Some.name in (
      tt,
      tt,
      (
        so_far.0 ++ b ∷ [],
        append_assoc so_far.0 (b ∷ []) c.next.new.self
            ∙ (ap (λ (l : List NamedBit). so_far.0 ++ l) (sym c.in-Some.ensures.steps) ∙ so_far.1),
        omega (arith, so_far.2, c.in_ok-written.ensures.few, length-append so_far.0 (b ∷ [])),
        λ start before out is.
            let front = before ++ flat_map name_text so_far.0 in
            let now = so_far.3 start before out is in
            let put = c.in_ok-written.ensures.put start front now.0 now.1 in
            let text : before ++ flat_map name_text (so_far.0 ++ b ∷ []) ≡ front ++ c.name_line.result.items =
            names_text_at before so_far.0 [] b
            ∙ (append-nil (front ++ name_text b) ∙ ap (λ (l : List ℕ). front ++ l) (sym c.name_line.ensures)) in (
              subst (λ (l : List ℕ). Appends start (g.W.Write.contents c.put_line.new.w) l) (sym text) put.0,
              put.1 ∙ ap length (sym text),
            ),
      ),
    )

pub returns : goal.returns
returns g c = record {
  put = λ start before out is.
      let so_far = c.loop-name.invariant.2 in
      let now = so_far.3 start before out is in
      let names : so_far.0 ≡ c.args.names = sym (append-nil so_far.0)
      ∙ (ap (λ (l : List NamedBit). so_far.0 ++ l) (sym c.in-None.ensures.steps.0) ∙ so_far.1) in
      let text = ap (λ (l : List NamedBit). before ++ flat_map name_text l) names in
      (subst (λ (l : List ℕ). Appends start (g.W.Write.contents c.loop-name.w) l) text now.0, now.1 ∙ ap length text);
}
