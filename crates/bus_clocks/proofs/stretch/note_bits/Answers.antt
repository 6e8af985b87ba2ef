use Rattle.std.proofs.Common.{◌≡◌, ◌+◌, ◌-◌, ◌%◌, length, Some, inl, inr, ap, ◌∙◌, arith}
use Rattle.std.specs.Prelude.{slice_get, slice_index}
use Rattle.std.proofs.lemmas.Bool.{cases_lt}
use Rattle.std.proofs.lemmas.Option.{get_or_from_slice_get, slice_get_within}
use Rattle.bus_tap.specs.declared.places.BitPlaces.{BitPlaces}
use Rattle.bus_clocks.specs.Internal.Stretch.{place_after}
use Rattle.bus_clocks.proofs.stretch.note_bits.Goals as goal

pub loop-at-preserved : goal.loop-at-preserved
loop-at-preserved c =
    let at = c.loop-at.at in
    let s = c.args.standing.now in
    let xs = c.args.before.now in
    let before = c.loop-at.invariant in
    let notes = c.note-in-loop-at.ensures.notes in
    let reach = c.reach-in-loop-at.ensures.value in
    let now : c.reach-in-loop-at.new.self.reached ≡ place_after s (slice_index xs at) =
    ap (λ (p : BitPlaces). p.reached) reach ∙ c.after-in-loop-at.ensures in
    record {
      within = omega (arith, c.loop-at-test.true);
      from = omega (arith, before.from);
      reached = λ x some is.
          let here : at + 1 - 1 ≡ at = omega arith in
          notes.reached ∙ (now ∙ ap (place_after s) (get_or_from_slice_get xs at x 0 (rw here at is)));
      recent = λ i x inside is near. elim (cases_lt i at) [
        | inl below ↦
            notes.others ((c.args.number + i) % 16) (λ same. omega (arith, same, below, near, c.loop-at-test.true))
            ∙ (ap (λ (p : BitPlaces). slice_get p.recent ((c.args.number + i) % 16)) reach
            ∙ before.recent i x below is near)
        | inr last ↦
            (let here : i ≡ at = omega (arith, last, inside) in
            ap (λ k. slice_get c.note-in-loop-at.new.self.recent ((c.args.number + k) % 16)) here
            ∙ (notes.here ∙ ap Some (now
            ∙ ap (place_after s) (get_or_from_slice_get xs at x 0 (rw here at is)))))
      ];
      others = λ k below near.
          notes.others (k % 16) (λ same. omega (arith, same, below, near, c.loop-at-test.true))
          ∙ (ap (λ (p : BitPlaces). slice_get p.recent (k % 16)) reach ∙ before.others k below near);
      opened = λ i x is found.
          notes.opened ∙ (ap (λ (p : BitPlaces). p.opened) reach ∙ before.opened i x is found);
      kept = λ none. notes.opened ∙ (ap (λ (p : BitPlaces). p.opened) reach ∙ before.kept none);
    }

pub returns : goal.returns
returns c =
    let xs = c.args.before.now in
    let inside = c.loop-at.invariant in
    let all : c.loop-at.at ≡ length xs = omega (arith, inside.within, c.loop-at-test.false) in
    record {
      reached = λ x is. inside.reached x (omega (arith, all, c.requires.some))
          (ap (λ k. slice_get xs (k - 1)) all ∙ is);
      recent = λ i x is near. inside.recent i x (omega (arith, all, slice_get_within xs i x is)) is near;
      others = inside.others;
      opened = inside.opened;
      kept = inside.kept;
    }
