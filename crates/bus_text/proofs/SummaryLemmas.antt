-- How often each thing is seen, with one report more.
use Rattle.std.proofs.Common.{◌≡◌, ◌+◌, ℕ, Bool, true, false, List, [], ◌∷◌, ◌++◌, refl, ◌∙◌, arith}
use Rattle.std.specs.List.{count_by}
use Rattle.std.specs.Prelude.{cond}
use Rattle.std.proofs.lemmas.List.Sums.{sum_by-append}
use Rattle.bus_pairing.specs.Seen.{SeenReport}
use Rattle.bus_pairing.specs.declared.outcome.Outcome.TheVariants.{Answered, Late, Missing, Spoilt}
use Rattle.bus_pairing.specs.Talk.{is_idle_kind}
use Rattle.bus_text.specs.Summary.{shows_frame, shows_damaged, shows_overlong, shows_abort, has_outcome, summary_of}
use Rattle.bus_text.specs.Counting.{one_more_if, with_kind, with_seen}
use Rattle.bus_text.specs.declared.summary.Summary.{Summary}
use Rattle.bus_line.specs.Shown.{kind_with}
use Rattle.bus_line.specs.declared.event.EventKind.{EventKind}
use Rattle.bus_line.specs.declared.event.EventKind.TheVariants as event

count-last : {X : Type 0} (p : X → Bool) (xs : List X) (x : X) →
    count_by p (xs ++ x ∷ []) ≡ one_more_if (p x) (count_by p xs)
count-last p xs x =
    let n = count_by p xs in
    sum_by-append (λ x. cond (p x) 1 0) xs (x ∷ [])
    ∙ (elim (p x) as (λ b. n + (0 + cond b 1 0) ≡ one_more_if b n) [
      | true ↦ omega arith
      | false ↦ omega arith
    ])

-- a summary of one report more
pub summary-more : (before : List SeenReport) (s : SeenReport) →
    summary_of (before ++ s ∷ []) ≡ with_seen s (summary_of before)
summary-more before s =
    rw (
      count-last (λ (s : SeenReport). shows_frame s.report.kind) before s,
      count-last (λ (s : SeenReport). shows_damaged s.report.kind) before s,
      count-last (λ (s : SeenReport). shows_overlong s.report.kind) before s,
      count-last (λ (s : SeenReport). shows_abort s.report.kind) before s,
      count-last (λ (s : SeenReport). is_idle_kind s.report.kind) before s,
      count-last (λ (s : SeenReport). s.stray) before s,
      count-last (λ (s : SeenReport). has_outcome Answered s.verdict) before s,
      count-last (λ (s : SeenReport). has_outcome Missing s.verdict) before s,
      count-last (λ (s : SeenReport). has_outcome Spoilt s.verdict) before s,
      count-last (λ (s : SeenReport). has_outcome Late s.verdict) before s,
    ) refl

-- what is counted of a frame doesn't depend on its octets
pub kind-alone : (octets : List ℕ) (kind : EventKind) (s : Summary) →
    with_kind (kind_with [] kind) s ≡ with_kind (kind_with octets kind) s
kind-alone octets event.Frame s = refl
kind-alone octets (event.Damaged cause) s = refl
kind-alone octets event.Overlong s = refl
kind-alone octets event.Abort s = refl
kind-alone octets event.Idle s = refl
