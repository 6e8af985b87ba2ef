-- Sums over the reports of arrivals.
use Rattle.std.proofs.Common.{◌≡◌, ℕ, ◌+◌, Bool, List, [], ◌∷◌, ◌++◌, length, map, Option, Some, None, refl, ap}
use Rattle.std.proofs.Common.{◌∙◌, arith, append-nil}
use Rattle.std.specs.List.{sum_by}
use Rattle.std.specs.Option.{option_map, option_to_list}
use Rattle.std.proofs.lemmas.List.Sums.{sum_by-append}
use Rattle.bus_line.specs.Report.{Report, Kind, moved}
use Rattle.bus_line.specs.Due.{reports, due_at}
use Rattle.bus_line.specs.Laws.{OneMore}
use Rattle.bus_line.specs.LineReport.{LineReport, line_report}
use Rattle.bus_line.specs.declared.line.Line.{Line}
use Rattle.bus_line.specs.declared.line.Line.TheVariants.{First, Second}
use Rattle.bus_tap.specs.Arrival.{Arrival, own, at_places, decides, arrived}
use Rattle.bus_tap.specs.Laws.{ArrivalsGrow}
use Rattle.bus_bits.proofs.OneMoreLemmas.{one-by-one}
use Rattle.bus_tap.proofs.ArrivalLemmas.{own-append}
use Rattle.bus_tap.proofs.ArrivedLemmas.{decides-first, decides-second}

-- of a number that a report has whatever its places
module _ (f : Report → ℕ) (same : (kind : Kind) (a b c d : ℕ) →
    f (record { kind = kind; first = a; past = b }) ≡ f (record { kind = kind; first = c; past = d })) where
  sum-more : OneMore → (longest : ℕ) (b : List Bool) (bit : Bool) → sum_by f (reports longest (b ++ bit ∷ []))
      ≡ sum_by f (reports longest b) + sum_by f (option_to_list (due_at longest (b ++ bit ∷ []) (length b)))
  sum-more more longest b bit =
      ap (sum_by f) (more longest b bit)
      ∙ sum_by-append f (reports longest b) (option_to_list (due_at longest (b ++ bit ∷ []) (length b)))

  sum-option : (line : Line) (g : Report → Report) → ((r : Report) → f (g r) ≡ f r) → (o : Option Report) →
      sum_by (λ (h : LineReport). f h.report) (map (line_report (Some line)) (option_to_list (option_map g o)))
      ≡ sum_by f (option_to_list o)
  sum-option line g stays None = refl
  sum-option line g stays (Some r) = omega (arith, stays r)

  sum-step : OneMore → (origin longest : ℕ) (xs : List Arrival) (x : Arrival) →
      sum_by f (reports longest (own First (xs ++ x ∷ []))) + sum_by f (reports longest (own Second (xs ++ x ∷ [])))
      ≡ (sum_by f (reports longest (own First xs)) + sum_by f (reports longest (own Second xs)))
      + sum_by (λ (h : LineReport). f h.report) (decides origin longest xs x)
  sum-step more origin longest xs (First, bit) =
      omega (
        arith,
        ap (λ b. sum_by f (reports longest b)) (own-append First xs ((First, bit) ∷ [])),
        ap (λ b. sum_by f (reports longest b)) (own-append Second xs ((First, bit) ∷ []) ∙ append-nil (own Second xs)),
        sum-more more longest (own First xs) bit,
        ap (sum_by (λ (h : LineReport). f h.report)) (decides-first origin longest xs bit),
        sum-option First (moved origin) (λ r. same r.kind (origin + r.first) (origin + r.past) r.first r.past)
            (due_at longest (own First xs ++ bit ∷ []) (length (own First xs))),
      )
  sum-step more origin longest xs (Second, bit) =
      let put : Report → Report = λ r. moved origin (at_places (xs ++ (Second, bit) ∷ []) r) in
      omega (
        arith,
        ap (λ b. sum_by f (reports longest b)) (own-append First xs ((Second, bit) ∷ []) ∙ append-nil (own First xs)),
        ap (λ b. sum_by f (reports longest b)) (own-append Second xs ((Second, bit) ∷ [])),
        sum-more more longest (own Second xs) bit,
        ap (sum_by (λ (h : LineReport). f h.report)) (decides-second origin longest xs bit),
        sum-option Second put (λ r. same r.kind (put r).first (put r).past r.first r.past)
            (due_at longest (own Second xs ++ bit ∷ []) (length (own Second xs))),
      )

  pub sum-arrived : OneMore → ArrivalsGrow → (origin longest : ℕ) (xs : List Arrival) →
      sum_by (λ (h : LineReport). f h.report) (arrived origin longest xs)
      ≡ sum_by f (reports longest (own First xs)) + sum_by f (reports longest (own Second xs))
  sum-arrived more grow origin longest xs =
      one-by-one
      (λ ys. sum_by (λ (h : LineReport). f h.report) (arrived origin longest ys)
      ≡ sum_by f (reports longest (own First ys)) + sum_by f (reports longest (own Second ys)))
      refl
      (λ ys y before. omega (
        arith,
        ap (sum_by (λ (h : LineReport). f h.report)) (grow origin longest ys y),
        sum_by-append (λ (h : LineReport). f h.report) (arrived origin longest ys) (decides origin longest ys y),
        before,
        sum-step more origin longest ys y,
      )) xs
