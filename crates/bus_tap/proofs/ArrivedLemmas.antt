-- More arrivals: what they decide, and where its places are.
use Rattle.std.proofs.Common.{◌≡◌, ℕ, suc, ◌+◌, ◌-◌, ◌<◌, ◌≤◌, Bool, List, [], ◌∷◌, ◌++◌, length, map, Option, Some}
use Rattle.std.proofs.Common.{None, refl, sym, ap, ◌∙◌, arith, append-nil, length-append, false, take, drop, get_or}
use Rattle.std.specs.List.{flat_map}
use Rattle.std.specs.Option.{option_map, option_to_list}
use Rattle.std.proofs.lemmas.List.{take-append-drop, take-append-le}
use Rattle.std.proofs.Math.Seq.{drop-cons, take-append_seam}
use Rattle.bus_line.specs.Report.{Report, IsReport, closed, aborted, idle, due, moved}
use Rattle.bus_line.specs.Due.{due_at}
use Rattle.bus_line.specs.Laws.{DueStays, DueIsIt}
use Rattle.bus_line.specs.LineReport.{line_report, line_reports_at}
use Rattle.bus_line.specs.declared.line.Line.{Line}
use Rattle.bus_line.specs.declared.line.Line.TheVariants.{First, Second}
use Rattle.bus_line.proofs.DueLemmas.{class-due}
use Rattle.bus_tap.specs.Arrival.{Arrival, own, place_of, at_places, due_on, decided_at, arrived, decides}
use Rattle.bus_tap.proofs.ArrivalLemmas.{own-append, before-append}
use Rattle.bus_tap.proofs.EachLemmas.{each-more, alone-front, alone-last}
use Rattle.bus_tap.specs.Laws.{ArrivalsGrow}

-- where the span of a report lies that bit `n` decides
pub record IsNear (n : ℕ) (r : Report) : Type 0 where
  pub some : r.first < r.past
  pub within : r.past ≤ n + 1
  pub near : n ≤ r.past + 7

pub report-near : (longest : ℕ) (b : List Bool) (r : Report) → IsReport longest b r → IsNear (due r) r
report-near longest b _ (closed p m kind piece end is-class) =
    let at = class-due longest _ kind (p + 8) m is-class in
    record {
      some = piece.some;
      within = omega (arith, at);
      near = omega (arith, at);
    }
report-near longest b _ (aborted p m piece end) =
    record { some = piece.some; within = omega arith; near = omega arith }
report-near longest b _ (idle a end) = record { some = omega arith; within = omega arith; near = omega arith }

-- reports stay where they are when more arrives
pub place-same : (xs ys : List Arrival) (r : Report) → r.first < r.past → r.past ≤ length (own Second xs) →
    at_places (xs ++ ys) r ≡ at_places xs r
place-same xs ys r some within =
    let first : place_of (xs ++ ys) r.first ≡ place_of xs r.first =
    ap (λ n. n - 1) (before-append r.first xs ys (omega (arith, some, within))) in
    let past : place_of (xs ++ ys) (r.past - 1) + 1 ≡ place_of xs (r.past - 1) + 1 =
    ap (λ n. (n - 1) + 1) (before-append (r.past - 1) xs ys (omega (arith, some, within))) in
    rw (first, past) refl

-- what is due at a bit stays
due-places : (origin : ℕ) (xs ys : List Arrival) (o : Option Report) →
    ((r : Report) → o ≡ Some r → (r.first < r.past) × (r.past ≤ length (own Second xs))) →
    option_map (λ r. moved origin (at_places (xs ++ ys) r)) o ≡ option_map (λ r. moved origin (at_places xs r)) o
due-places origin xs ys None inside = refl
due-places origin xs ys (Some r) inside =
    let both = inside r refl in
    ap (λ s. Some (moved origin s)) (place-same xs ys r both.0 both.1)

due-stays : DueStays → DueIsIt → (origin longest : ℕ) (xs ys : List Arrival) (line : Line) (k : ℕ) →
    k < length (own line xs) → due_on origin longest (xs ++ ys) line k ≡ due_on origin longest xs line k
due-stays stays it origin longest xs ys First k inside =
    ap (λ o. map (line_report (Some First)) (option_to_list (option_map (moved origin) o)))
    (ap (λ b. due_at longest b k) (own-append First xs ys) ∙ stays longest (own First xs) (own First ys) k inside)
due-stays stays it origin longest xs ys Second k inside =
    ap (λ o. map (line_report (Some Second))
    (option_to_list (option_map (λ r. moved origin (at_places (xs ++ ys) r)) o)))
    (ap (λ b. due_at longest b k) (own-append Second xs ys) ∙ stays longest (own Second xs) (own Second ys) k inside)
    ∙ ap (λ o. map (line_report (Some Second)) (option_to_list o))
    (due-places origin xs ys (due_at longest (own Second xs) k)
    (λ r is.
    let found = (it longest (own Second xs) k r).1 is in
    let near = report-near longest (own Second xs) r found.0 in
    (near.some, omega (arith, near.within, found.1, inside))))

-- arrival `i` is the next one of its line
own-inside : (xs : List Arrival) (i : ℕ) (x : Arrival) (rest : List Arrival) → drop i xs ≡ x ∷ rest →
    length (own x.0 (take i xs)) < length (own x.0 xs)
own-inside xs i x rest is =
    omega (
      arith,
      ap (λ ys. length (own x.0 ys)) (sym (take-append-drop i xs)),
      ap length (own-append x.0 (take i xs) (drop i xs)),
      length-append (own x.0 (take i xs)) (own x.0 (drop i xs)),
      ap (λ ys. length (own x.0 ys)) is,
      own-first x rest,
    )
  where
    own-first : (x : Arrival) (rest : List Arrival) → 1 ≤ length (own x.0 (x ∷ rest))
    own-first (First, bit) rest = omega arith
    own-first (Second, bit) rest = omega arith

decided-stays : DueStays → DueIsIt → (origin longest : ℕ) (xs ys : List Arrival) (i : ℕ) → i < length xs →
    decided_at origin longest (xs ++ ys) i ≡ decided_at origin longest xs i
decided-stays stays it origin longest xs ys i inside =
    let x = get_or xs i (First, false) in
    let here : drop i xs ≡ x ∷ drop (suc i) xs = drop-cons xs i (First, false) inside in
    let alone : take 1 (drop i xs) ≡ x ∷ [] = ap (take 1) here in
    ap (flat_map (λ (y : Arrival). due_on origin longest (xs ++ ys) y.0 (length (own y.0 (take i (xs ++ ys))))))
    (alone-front xs ys i inside ∙ alone)
    ∙ (ap (λ zs. due_on origin longest (xs ++ ys) x.0 (length (own x.0 zs)) ++ [])
    (take-append-le i xs ys (omega (arith, inside)))
    ∙ (ap (λ hs. hs ++ []) (due-stays stays it origin longest xs ys x.0 (length (own x.0 (take i xs)))
    (own-inside xs i x (drop (suc i) xs) here))
    ∙ ap (flat_map (λ (y : Arrival). due_on origin longest xs y.0 (length (own y.0 (take i xs))))) (sym alone)))

-- an arrival adds what it decides
pub arrived-more : DueStays → DueIsIt → ArrivalsGrow
arrived-more stays it = λ origin longest xs x.
    let last = xs ++ x ∷ [] in
    each-more (decided_at origin longest last) (decided_at origin longest xs) xs x
    (decided-stays stays it origin longest xs (x ∷ []))
    ∙ ap (λ hs. arrived origin longest xs ++ hs)
    (ap (flat_map (λ (y : Arrival). due_on origin longest last y.0 (length (own y.0 (take (length xs) last)))))
    (alone-last xs x)
    ∙ (ap (λ zs. due_on origin longest last x.0 (length (own x.0 zs)) ++ []) (take-append_seam xs (x ∷ []))
    ∙ append-nil (decides origin longest xs x)))

-- by the line's own bits
pub decides-first : (origin longest : ℕ) (xs : List Arrival) (bit : Bool) → decides origin longest xs (First, bit)
    ≡ line_reports_at First origin longest (own First xs ++ bit ∷ []) (length (own First xs))
decides-first origin longest xs bit =
    ap (λ b. line_reports_at First origin longest b (length (own First xs))) (own-append First xs ((First, bit) ∷ []))

pub decides-second : (origin longest : ℕ) (xs : List Arrival) (bit : Bool) → decides origin longest xs (Second, bit)
    ≡ map (line_report (Some Second)) (option_to_list (option_map
    (λ r. moved origin (at_places (xs ++ (Second, bit) ∷ []) r))
    (due_at longest (own Second xs ++ bit ∷ []) (length (own Second xs)))))
decides-second origin longest xs bit =
    ap (λ b. map (line_report (Some Second)) (option_to_list (option_map
    (λ r. moved origin (at_places (xs ++ (Second, bit) ∷ []) r)) (due_at longest b (length (own Second xs))))))
    (own-append Second xs ((Second, bit) ∷ []))
