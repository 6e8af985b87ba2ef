-- Arrivals of which the second line's decide nothing.
use Rattle.std.proofs.Common.{◌≡◌, ℕ, ◌+◌, ◌-◌, ◌%◌, ◌<◌, ◌≤◌, ◌^◌, Bool, List, [], ◌∷◌, ◌++◌, length, map}
use Rattle.std.proofs.Common.{Option, Some, None, refl, sym, ap, ◌∙◌, arith, append-nil, append_assoc}
use Rattle.std.proofs.Common.{length-append, ◌⊎◌}
use Rattle.std.proofs.lemmas.List.{map-append, length-map, append_cancel_left}
use Rattle.bus_line.specs.Report.{Report, moved}
use Rattle.bus_line.specs.Due.{reports, placed}
use Rattle.bus_line.specs.Laws.{ReportsAre, ReportsGrow, DueWithin}
use Rattle.bus_line.specs.declared.event.EventKind.TheVariants as event
use Rattle.bus_line.specs.LineReport.{LineReport, line_report, of_side}
use Rattle.bus_line.specs.declared.line.Line.TheVariants.{First, Second}
use Rattle.bus_watch.specs.Decodes.{line_reports_of}
use Rattle.bus_tap.specs.Arrival.{Arrival, own, at_places, arrived, decides}
use Rattle.bus_bits.proofs.OneMoreLemmas.{one-by-one}
use Rattle.bus_tap.proofs.ArrivalLemmas.{own-append}
use Rattle.bus_tap.specs.Laws.{ArrivalsGrow}
use Rattle.bus_clocks.specs.Laws.{LinesApart}
use Rattle.bus_clocks.proofs.ApartLemmas.{side-append, places-stay}
use Rattle.bus_tap.proofs.ArrivedLemmas.{decides-first, decides-second}

-- what more arrivals add; where nothing of it is the second line's, all is the first line's
record Adds (origin longest : ℕ) (xs us : List Arrival) : Type 0 where
  tail : List LineReport
  adds : arrived origin longest (xs ++ us) ≡ arrived origin longest xs ++ tail
  alone : of_side Second tail ≡ [] → tail ≡ map (line_report (Some First)) (of_side First tail)

nothing-left : {X : Type 0} (xs ys : List X) → xs ++ ys ≡ [] → (xs ≡ []) × (ys ≡ [])
nothing-left [] ys none = (refl, none)
nothing-left (x ∷ xs) ys none = absurd (cc)

alone-first : (tail : List LineReport) (o : Option Report) →
    (of_side Second tail ≡ [] → tail ≡ map (line_report (Some First)) (of_side First tail)) →
    of_side Second (tail ++ line_reports_of (Some First) o) ≡ [] →
    tail ++ line_reports_of (Some First) o
    ≡ map (line_report (Some First)) (of_side First (tail ++ line_reports_of (Some First) o))
alone-first tail o alone none =
    let before = nothing-left (of_side Second tail) (of_side Second (line_reports_of (Some First) o))
    (sym (side-append Second tail (line_reports_of (Some First) o)) ∙ none) in
    ap (λ hs. hs ++ line_reports_of (Some First) o) (alone before.0)
    ∙ (ap (λ hs. map (line_report (Some First)) (of_side First tail) ++ hs) (one o)
    ∙ (sym (map-append (line_report (Some First)) (of_side First tail) (of_side First (line_reports_of (Some First) o)))
    ∙ ap (map (line_report (Some First))) (sym (side-append First tail (line_reports_of (Some First) o)))))
  where
    one : (o : Option Report) → line_reports_of (Some First) o
        ≡ map (line_report (Some First)) (of_side First (line_reports_of (Some First) o))
    one None = refl
    one (Some r) = refl

alone-second : (tail : List LineReport) (o : Option Report) →
    (of_side Second tail ≡ [] → tail ≡ map (line_report (Some First)) (of_side First tail)) →
    of_side Second (tail ++ line_reports_of (Some Second) o) ≡ [] →
    tail ++ line_reports_of (Some Second) o
    ≡ map (line_report (Some First)) (of_side First (tail ++ line_reports_of (Some Second) o))
alone-second tail None alone none =
    let same = append-nil tail in
    rw same (alone (ap (of_side Second) (sym same) ∙ none))
alone-second tail (Some r) alone none =
    let both = nothing-left (of_side Second tail) (r ∷ [])
    (sym (side-append Second tail (line_reports_of (Some Second) (Some r))) ∙ none) in
    absurd (let clash = both.1 in cc)

adds-more : ArrivalsGrow → (origin longest : ℕ) (xs us : List Arrival) (x : Arrival) → Adds origin longest xs us →
    Adds origin longest xs (us ++ x ∷ [])
adds-more grow origin longest xs us x before = record {
  tail = before.tail ++ decides origin longest (xs ++ us) x;
  adds =
      ap (arrived origin longest) (sym (append_assoc xs us (x ∷ [])))
      ∙ (grow origin longest (xs ++ us) x
      ∙ (ap (λ hs. hs ++ decides origin longest (xs ++ us) x) before.adds
      ∙ append_assoc (arrived origin longest xs) before.tail (decides origin longest (xs ++ us) x)));
  alone = by-line x;
}
  where
    by-line : (x : Arrival) → of_side Second (before.tail ++ decides origin longest (xs ++ us) x) ≡ [] →
        before.tail ++ decides origin longest (xs ++ us) x
        ≡ map (line_report (Some First)) (of_side First (before.tail ++ decides origin longest (xs ++ us) x))
    by-line (First, bit) =
        rw (decides-first origin longest (xs ++ us) bit) (alone-first before.tail _ before.alone)
    by-line (Second, bit) =
        rw (decides-second origin longest (xs ++ us) bit) (alone-second before.tail _ before.alone)

adds-all : ArrivalsGrow → (origin longest : ℕ) (xs us : List Arrival) → Adds origin longest xs us
adds-all grow origin longest xs us =
    one-by-one (Adds origin longest xs)
    (record {
      tail = [];
      adds = ap (arrived origin longest) (append-nil xs) ∙ sym (append-nil (arrived origin longest xs));
      alone = λ _. refl;
    }) (adds-more grow origin longest xs) us

-- the reports of a line that adds none
same-reports : ReportsGrow → (origin longest : ℕ) (b c : List Bool) →
    placed origin longest (b ++ c) ≡ placed origin longest b → reports longest (b ++ c) ≡ reports longest b
same-reports grow origin longest b c same =
    let grown = grow longest b c in
    let none : length grown.0 ≡ 0 = omega (
      arith,
      ap length same,
      length-map (reports longest (b ++ c)) (moved origin),
      length-map (reports longest b) (moved origin),
      ap length grown.1,
      length-append (reports longest b) grown.0,
    ) in
    grown.1 ∙ (ap (λ rs. reports longest b ++ rs) (no-items grown.0 none) ∙ append-nil (reports longest b))
  where
    no-items : (rs : List Report) → length rs ≡ 0 → rs ≡ []
    no-items [] none = refl
    no-items (r ∷ rs) none = absurd (omega (arith, none))

-- arrivals of which the second line's decide nothing add the first line's reports
pub arrived-alone : ArrivalsGrow → LinesApart → ReportsGrow → ReportsAre → DueWithin → (origin longest : ℕ)
    (xs us : List Arrival) (rs : List Report)
    → placed origin longest (own First xs ++ own First us) ≡ placed origin longest (own First xs) ++ rs
    → placed 0 longest (own Second xs ++ own Second us) ≡ placed 0 longest (own Second xs)
    → arrived origin longest (xs ++ us) ≡ arrived origin longest xs ++ map (line_report (Some First)) rs
arrived-alone grow apart grows are within origin longest xs us rs first quiet =
    let adds = adds-all grow origin longest xs us in
    let before = apart origin longest xs in
    let after = apart origin longest (xs ++ us) in
    let same : of_side Second (arrived origin longest (xs ++ us)) ≡ of_side Second (arrived origin longest xs) =
    after.1
    ∙ (ap (λ ps. map (λ r. moved origin (at_places (xs ++ us) r)) ps)
    (ap (reports longest) (own-append Second xs us)
    ∙ same-reports grows 0 longest (own Second xs) (own Second us) quiet)
    ∙ (places-stay are within origin longest xs us ∙ sym before.1)) in
    let none : of_side Second adds.tail ≡ [] =
    append_cancel_left (of_side Second (arrived origin longest xs)) (of_side Second adds.tail) []
    (sym (side-append Second (arrived origin longest xs) adds.tail)
    ∙ (ap (of_side Second) (sym adds.adds) ∙ (same ∙ sym (append-nil (of_side Second (arrived origin longest xs)))))) in
    let ones : of_side First adds.tail ≡ rs =
    append_cancel_left (placed origin longest (own First xs)) (of_side First adds.tail) rs
    (ap (λ hs. hs ++ of_side First adds.tail) (sym before.0)
    ∙ (sym (side-append First (arrived origin longest xs) adds.tail)
    ∙ (ap (of_side First) (sym adds.adds)
    ∙ (after.0 ∙ (ap (placed origin longest) (own-append First xs us) ∙ first))))) in
    adds.adds ∙ ap (λ hs. arrived origin longest xs ++ hs)
    (adds.alone none ∙ ap (map (line_report (Some First))) ones)
