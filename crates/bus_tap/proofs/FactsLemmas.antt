-- What is counted, with one more.
use Rattle.std.proofs.Common.{◌≡◌, ℕ, ◌-◌, ◌<◌, ◌≤◌, true, false, if◌then◌else◌, List, [], ◌∷◌, ◌++◌, length, refl, sym}
use Rattle.std.proofs.Common.{ap, ◌∙◌, arith, subst, inl, inr, append-nil, not, Bool, true, false}
use Rattle.std.specs.Prelude.{slice_index, ◌&&◌, nat_lt, nat_le}
use Rattle.std.specs.Int.{abs_diff}
use Rattle.std.proofs.lemmas.List.{get_or_append_left}
use Rattle.std.proofs.Math.Seq.{get_or-append_seam}
use Rattle.std.proofs.lemmas.Bool.{cases_lt}
use Rattle.bus_tap.specs.Facts.{IsTallied, IsLongest, spacing, is_jump, jumps, AreFactsOf}
use Rattle.bus_tap.specs.Internal.Tallies.{where_is}
use Rattle.bus_tap.specs.declared.facts.Occurrences.{Occurrences}
use Rattle.bus_tap.specs.declared.facts.Gap.{Gap}
use Rattle.bus_tap.proofs.EachLemmas.{each-more, length-more}
use Rattle.std.specs.Bool.{beq}
use Rattle.bus_tap.specs.declared.facts.Levels.{Levels}
use Rattle.bus_tap.specs.declared.facts.LineFacts.{LineFacts}

module _ (es : List ℕ) (s : ℕ) where
  pub last-more : slice_index (es ++ s ∷ []) (length es) ≡ s
  last-more = get_or-append_seam es s [] 0

  pub front-same : (i : ℕ) → i < length es → slice_index (es ++ s ∷ []) i ≡ slice_index es i
  front-same i inside = get_or_append_left es (s ∷ []) 0 i inside

  pub last-at : (i : ℕ) → i ≡ length es → slice_index (es ++ s ∷ []) i ≡ s
  last-at i is = ap (slice_index (es ++ s ∷ [])) is ∙ last-more

  pub spacing-front : (k : ℕ) → k < length es → spacing (es ++ s ∷ []) k ≡ spacing es k
  spacing-front k inside = rw (front-same k inside, front-same (k - 1) (omega (arith, inside))) refl

  pub spacing-last : (k : ℕ) → k ≡ length es → 1 ≤ k → spacing (es ++ s ∷ []) k ≡ s - slice_index es (length es - 1)
  spacing-last k is some =
      rw (last-at k is, front-same (k - 1) (omega (arith, is, some)), is) refl

  -- the longest spacing, which stays or is the last one
  pub longest-stays : (g : Gap) → 2 ≤ length es → s - slice_index es (length es - 1) ≤ g.length → IsLongest g es
      → IsLongest g (es ++ s ∷ [])
  longest-stays g two less (inl (few, from, len)) = absurd (omega (arith, few, two))
  longest-stays g two less (inr (k, at)) = inr (
    k,
    record {
      some = at.some;
      inside = omega (arith, at.inside, length-more es s);
      from = at.from ∙ sym (front-same (k - 1) (omega (arith, at.inside)));
      reaches = at.reaches ∙ sym (spacing-front k at.inside);
      first = λ j some before. rw (spacing-front j (omega (arith, before, at.inside))) (at.first j some before);
      longest = λ j some inside. elim (cases_lt j (length es)) [
        | inl before ↦ rw (spacing-front j before) (at.longest j some before)
        | inr last ↦
            rw (spacing-last j (omega (arith, inside, last, length-more es s)) some) less
      ];
    },
  )

  -- the jumps, of which this may be one more
  pub jumps-more : (most : ℕ) → jumps most (es ++ s ∷ [])
      ≡ jumps most es ++ (if is_jump most (es ++ s ∷ []) (length es) then s ∷ [] else [])
  jumps-more most =
      each-more (λ k. if is_jump most (es ++ s ∷ []) k then slice_index (es ++ s ∷ []) k ∷ [] else [])
      (λ k. if is_jump most es k then slice_index es k ∷ [] else []) es s
      (λ k inside. rw (
        spacing-front k inside,
        spacing-front (k - 1) (omega (arith, inside)),
        front-same k inside,
      ) refl)
      ∙ ap (λ e. jumps most es ++ (if is_jump most (es ++ s ∷ []) (length es) then e ∷ [] else [])) last-more

  -- whether it is
  pub is-jump-at : (most : ℕ) → 2 ≤ length es → is_jump most (es ++ s ∷ []) (length es)
      ≡ nat_lt most (abs_diff (s - slice_index es (length es - 1)) (spacing es (length es - 1)))
  is-jump-at most two =
      ap (λ b. b && nat_lt most (abs_diff (spacing (es ++ s ∷ []) (length es))
      (spacing (es ++ s ∷ []) (length es - 1)))) some
      ∙ rw (spacing-last (length es) refl (omega (arith, two)), spacing-front (length es - 1) (omega (arith, two))) refl
    where
      some : nat_le 2 (length es) ≡ true
      some = grind (arith, two)

  -- the spacing before it and that before decide
  pub jumps-at : (o : Occurrences) (most last before : ℕ) → 2 ≤ length es → last ≡ slice_index es (length es - 1)
      → before ≡ spacing es (length es - 1)
      → IsTallied o (jumps most es ++ where_is (nat_lt most (abs_diff (s - last) before)) s)
      → IsTallied o (jumps most (es ++ s ∷ []))
  jumps-at o most last before two is was tallied =
      subst (IsTallied o) (sym (jumps-more most
      ∙ ap (λ b. jumps most es ++ where_is b s) (is-jump-at most two
      ∙ (ap (λ x. nat_lt most (abs_diff (s - x) (spacing es (length es - 1)))) (sym is)
      ∙ ap (λ x. nat_lt most (abs_diff (s - last) x)) (sym was))))) tallied

pub length-less : (es : List ℕ) (s : ℕ) → length (es ++ s ∷ []) - 1 ≡ length es
length-less es s = omega (arith, length-more es s)

-- a sample that changes no level of a line adds nothing
unchanged : (b : Bool) → not (beq b b) ≡ false
unchanged true = refl
unchanged false = refl

no-rise : (b : Bool) → (not b && b) ≡ false
no-rise true = refl
no-rise false = refl

pub nothing-noted : (jump : ℕ) (f : LineFacts) (cs ls hs bs : List ℕ) (s : ℕ) (before after : Levels) → before ≡ after →
    AreFactsOf jump f cs ls hs bs →
    AreFactsOf jump f (cs ++ where_is (not (beq before.clock after.clock)) s)
    (ls ++ where_is (not (beq before.bits after.bits)) s)
    (hs ++ where_is (not (beq before.bits after.bits) && after.clock) s)
    (bs ++ where_is (not before.clock && after.clock) s)
nothing-noted jump f cs ls hs bs s before after same facts =
    subst (λ (l : Levels). AreFactsOf jump f (cs ++ where_is (not (beq before.clock l.clock)) s)
    (ls ++ where_is (not (beq before.bits l.bits)) s) (hs ++ where_is (not (beq before.bits l.bits) && l.clock) s)
    (bs ++ where_is (not before.clock && l.clock) s)) same
    (rw (
      unchanged before.clock,
      unchanged before.bits,
      no-rise before.clock,
      append-nil cs,
      append-nil ls,
      append-nil hs,
      append-nil bs,
    ) facts)
