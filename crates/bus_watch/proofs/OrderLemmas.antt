-- The order of the merged reports of two lines.
use Rattle.std.proofs.Common.{◌≡◌, ℕ, zero, suc, ◌<◌, ◌⊎◌, Bool, List, [], ◌∷◌, ◌++◌, length, map, Option, Some, None}
use Rattle.std.proofs.Common.{inl, inr, refl, sym, ap, ◌∙◌, subst, append-nil, arith, get_or}
use Rattle.std.specs.List.{flat_map, All, AllPairs}
use Rattle.std.specs.Option.{option_map, option_to_list}
use Rattle.std.proofs.lemmas.List.Elements.{All-append, All-nil, All-cons}
use Rattle.std.proofs.lemmas.List.Kept.{AllPairs-cons}
use Rattle.std.proofs.lemmas.Grind.{flat_map-append}
use Rattle.bus_line.specs.Report.{Report, moved}
use Rattle.bus_line.specs.Due.{places, due_at}
use Rattle.bus_line.specs.Laws.{DueIsIt}
use Rattle.bus_line.specs.LineReport.{LineReport, line_report, firsts, seconds, line_reports_at}
use Rattle.bus_watch.specs.Laws.{ComesBefore, MergedIsMerged}
use Rattle.bus_line.specs.declared.line.Line.{Line}
use Rattle.bus_line.specs.declared.line.Line.TheVariants.{First, Second}
use Rattle.bus_watch.proofs.MergedLemmas.{merged-first, merged-second}
use Rattle.bus_watch.proofs.PairLemmas.{reports-due, both-due, below}

-- two lists in order, of which each report of the one comes before each of the other
before-append : (xs ys : List LineReport) → AllPairs ComesBefore xs → AllPairs ComesBefore ys
    → ((i j : ℕ) (d : LineReport) → i < length xs → j < length ys → ComesBefore (get_or xs i d) (get_or ys j d)) →
    AllPairs ComesBefore (xs ++ ys)
before-append [] ys first second across = second
before-append (x ∷ xs) ys first second across =
    let rest = before-append xs ys
    (λ i j d before inside. first (suc i) (suc j) d (omega (arith, before)) (omega (arith, inside))) second
    (λ i j d i_inside j_inside. across (suc i) j d (omega (arith, i_inside)) j_inside) in
    AllPairs-cons ComesBefore x (xs ++ ys)
    (All-append (ComesBefore x) xs ys (λ i d inside. first 0 (suc i) d (omega arith) (omega (arith, inside)))
    (λ j d inside. across 0 j d (omega arith) inside))
    rest

-- what is reported on a line
reports-line : (on : Line) (origin longest : ℕ) (b : List Bool) (i : ℕ) →
    All (λ (h : LineReport). h.line ≡ Some on) (line_reports_at on origin longest b i)
reports-line on origin longest b i = one (due_at longest b i)
  where
    one : (o : Option Report) → All (λ (h : LineReport). h.line ≡ Some on)
        (map (line_report (Some on)) (option_to_list (option_map (moved origin) o)))
    one None = All-nil _
    one (Some r) = All-cons (λ (h : LineReport). h.line ≡ Some on) (line_report (Some on) (moved origin r)) [] refl
        (All-nil _)

-- is one report at most
alone : (on : Line) (origin longest : ℕ) (b : List Bool) (i : ℕ) → AllPairs ComesBefore
    (line_reports_at on origin longest b i)
alone on origin longest b i = one (due_at longest b i)
  where
    one : (o : Option Report) →
        AllPairs ComesBefore (map (line_report (Some on)) (option_to_list (option_map (moved origin) o)))
    one None = λ i j d before inside. absurd (omega (arith, inside))
    one (Some r) = λ i j d before inside. absurd (omega (arith, before, inside))

both-rise : DueIsIt → (origin longest : ℕ) (b c : List Bool) (i : ℕ) →
    AllPairs ComesBefore (line_reports_at First origin longest b i ++ line_reports_at Second origin longest c i)
both-rise it origin longest b c i =
    before-append (line_reports_at First origin longest b i) (line_reports_at Second origin longest c i)
    (alone First origin longest b i) (alone Second origin longest c i)
    (λ k m d k_inside m_inside. inr (
      reports-due it First origin longest b i k d k_inside ∙ sym
          (reports-due it Second origin longest c i m d m_inside),
      reports-line First origin longest b i k d k_inside,
      reports-line Second origin longest c i m d m_inside,
    ))

all-rise : DueIsIt → (origin longest : ℕ) (b c : List Bool) (n : ℕ) →
    AllPairs ComesBefore
    (flat_map (λ i. line_reports_at First origin longest b i ++ line_reports_at Second origin longest c i) (places n))
all-rise it origin longest b c zero = λ i j d before inside. absurd (omega (arith, inside))
all-rise it origin longest b c (suc n) =
    let f : ℕ → List LineReport = λ i. line_reports_at First origin longest b i ++ line_reports_at Second origin longest
    c i in
    subst (AllPairs ComesBefore)
    (sym (flat_map-append f (places n) (n ∷ []) ∙ ap (λ ys. flat_map f (places n) ++ ys) (append-nil (f n))))
    (before-append (flat_map f (places n)) (f n) (all-rise it origin longest b c n) (both-rise it origin longest b c n)
    (λ i j d i_inside j_inside. inl (omega (
      arith,
      below it origin longest b c n i d i_inside,
      both-due it origin longest b c n j d j_inside,
    ))))

-- a report is of one line or the other
abbrev IsOfOne : LineReport → Type 0
IsOfOne h = (h.line ≡ Some First) ⊎ (h.line ≡ Some Second)

all-of-one : (origin longest : ℕ) (b c : List Bool) (n : ℕ) →
    All IsOfOne
    (flat_map (λ i. line_reports_at First origin longest b i ++ line_reports_at Second origin longest c i) (places n))
all-of-one origin longest b c zero = All-nil _
all-of-one origin longest b c (suc n) =
    let f : ℕ → List LineReport = λ i. line_reports_at First origin longest b i ++ line_reports_at Second origin longest
    c i in
    subst (All IsOfOne)
    (sym (flat_map-append f (places n) (n ∷ []) ∙ ap (λ ys. flat_map f (places n) ++ ys) (append-nil (f n))))
    (All-append IsOfOne (flat_map f (places n)) (f n) (all-of-one origin longest b c n)
    (All-append IsOfOne (line_reports_at First origin longest b n) (line_reports_at Second origin longest c n)
    (λ i d inside. inl (reports-line First origin longest b n i d inside))
    (λ i d inside. inr (reports-line Second origin longest c n i d inside))))

pub merged-is-merged : DueIsIt → MergedIsMerged
merged-is-merged it = λ longest origin ps. record {
  first = merged-first longest origin ps;
  second = merged-second longest origin ps;
  no_other = all-of-one origin longest (firsts ps) (seconds ps) (length ps);
  rising = all-rise it origin longest (firsts ps) (seconds ps) (length ps);
}
