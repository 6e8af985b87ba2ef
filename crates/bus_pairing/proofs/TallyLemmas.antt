-- Counts of stations that are within the steps.
use Rattle.std.proofs.Common.{◌≡◌, ℕ, ◌+◌, ◌<◌, ◌≤◌, List, Some, inl, inr, sym, ap, ◌∙◌, arith, slice_get}
use Rattle.std.proofs.Common.{set, replicate}
use Rattle.std.proofs.lemmas.Bool.Decides.{eqb_tells}
use Rattle.std.proofs.lemmas.List.{length-replicate}
use Rattle.std.proofs.lemmas.Option.{slice_get_within}
use Rattle.circular_buffer.proofs.Places.{slice_get-set_same, slice_get-set_other}
use Rattle.bus_pairing.specs.Internal.Counted.{one_more, Counted, AreAtMost}
use Rattle.bus_pairing.specs.declared.counts.Counts.{Counts}
use Rattle.bus_pairing.specs.declared.verdict.Verdict.{Verdict}
use Rattle.bus_pairing.proofs.ConversationLemmas.{slice_get-replicate}
use Rattle.bus_pairing.specs.declared.outcome.Outcome.{Outcome}
use Rattle.bus_pairing.specs.declared.outcome.Outcome.TheVariants.{Answered, Late, Missing, Spoilt}

-- none of these counts is above this
abbrev AreWithin : ℕ → Counts → Type 0
AreWithin most c = (c.answered ≤ most) × (c.missing ≤ most) × (c.spoilt ≤ most) × (c.late ≤ most)

more-within : (most : ℕ) (o : Outcome) (c : Counts) → AreWithin most c → AreWithin (most + 1) (one_more o c)
more-within most Answered c are = (omega arith, omega arith, omega arith, omega arith)
more-within most Missing c are = (omega arith, omega arith, omega arith, omega arith)
more-within most Spoilt c are = (omega arith, omega arith, omega arith, omega arith)
more-within most Late c are = (omega arith, omega arith, omega arith, omega arith)

same-counts : (most : ℕ) (c d : Counts) → Some c ≡ Some d → AreWithin most c → AreWithin most d
same-counts most c d same are = let is : c ≡ d = cc in rw (← is) are

-- one verdict more, and one step more
pub within-counted : (most : ℕ) (tally : List Counts) (at : ℕ) (o : Outcome) (c : Counts) →
    slice_get tally at ≡ Some c → AreAtMost most tally → AreAtMost (most + 1) (set tally at (one_more o c))
within-counted most tally at o c here within station d is = elim (eqb_tells station at) [
  | inl same ↦
      let now : slice_get (set tally at (one_more o c)) at ≡ Some d =
      ap (slice_get (set tally at (one_more o c))) (sym same.1) ∙ is in
      same-counts (most + 1) (one_more o c) d
      (sym (slice_get-set_same tally at (one_more o c) (slice_get_within tally at c here)) ∙ now)
      (more-within most o c (within at c here))
  | inr other ↦
      let old = within station d (sym (slice_get-set_other tally at station (one_more o c) other.1) ∙ is) in
      (omega (arith, old), omega (arith, old), omega (arith, old), omega (arith, old))
]

pub counted-set : (tally : List Counts) (v : Verdict) (c : Counts) → slice_get tally v.station ≡ Some c →
    Counted (Some v) tally (set tally v.station (one_more v.outcome c))
counted-set tally v c here station d is = elim (eqb_tells v.station station) [
  | inl same ↦
      let both : Some c ≡ Some d = sym here ∙ (ap (slice_get tally) same.1 ∙ is) in
      let one : c ≡ d = cc in
      rw (same.0, ← same.1, ← one) (slice_get-set_same tally v.station (one_more v.outcome c)
      (slice_get_within tally v.station c here))
  | inr other ↦
      rw (other.0) (slice_get-set_other tally v.station station (one_more v.outcome c) (λ is. other.1 (sym is)) ∙ is)
]

-- the same counts for each station
pub within-replicate : (most n : ℕ) (c : Counts) → AreWithin most c → AreAtMost most (replicate n c)
within-replicate most n c are station d is =
    let inside : station < n = omega (arith, slice_get_within (replicate n c) station d is, length-replicate n c) in
    same-counts most c d (sym (slice_get-replicate n c station inside) ∙ is) are
