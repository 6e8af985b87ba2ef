-- Bits that arrive in turn, as with one clock for both lines.
use Rattle.std.proofs.Common.{◌≡◌, ℕ, zero, suc, ◌+◌, ◌-◌, ◌<◌, Bool, List, [], ◌∷◌, ◌++◌, length, map, Option, Some}
use Rattle.std.proofs.Common.{None, refl, sym, ap, ◌∙◌, subst, arith, append-nil, append_assoc, length-append}
use Rattle.std.specs.Option.{option_map, option_to_list}
use Rattle.std.proofs.lemmas.Grind.{flat_map-append}
use Rattle.bus_line.specs.Report.{Report, moved}
use Rattle.bus_line.specs.Due.{due_at}
use Rattle.bus_line.specs.Laws.{DueStays, DueIsIt}
use Rattle.bus_line.specs.LineReport.{line_report, line_reports_at, firsts, seconds, merged}
use Rattle.bus_line.specs.declared.line.Line.TheVariants.{First, Second}
use Rattle.bus_watch.proofs.MergedLemmas.{merged-more, length-firsts, length-seconds}
use Rattle.bus_tap.specs.Arrival.{own, firsts_before, place_of, at_places, arrived, decides}
use Rattle.bus_clocks.specs.Laws.{in_turn}
use Rattle.bus_tap.proofs.ArrivalLemmas.{own-append}
use Rattle.bus_tap.proofs.ArrivedLemmas.{IsNear, report-near, arrived-more, decides-first, decides-second}

-- bits that arrive in turn
turn-first : (ps : List (Bool × Bool)) → own First (in_turn ps) ≡ firsts ps
turn-first [] = refl
turn-first (p ∷ ps) = ap (λ b. p.0 ∷ b) (turn-first ps)

turn-second : (ps : List (Bool × Bool)) → own Second (in_turn ps) ≡ seconds ps
turn-second [] = refl
turn-second (p ∷ ps) = ap (λ b. p.1 ∷ b) (turn-second ps)

turn-before : (ps : List (Bool × Bool)) (k : ℕ) → k < length ps → firsts_before k (in_turn ps) ≡ suc k
turn-before [] k inside = absurd (omega (arith, inside))
turn-before (p ∷ ps) zero inside = refl
turn-before (p ∷ ps) (suc k) inside = ap suc (turn-before ps k (omega (arith, inside)))

turn-places : (ps : List (Bool × Bool)) (n : ℕ) (r : Report) → IsNear n r → n < length ps →
    at_places (in_turn ps) r ≡ r
turn-places ps n r near inside =
    let first : place_of (in_turn ps) r.first ≡ r.first =
    ap (λ k. k - 1) (turn-before ps r.first (omega (arith, near.some, near.within, inside))) ∙ omega arith in
    let past : place_of (in_turn ps) (r.past - 1) + 1 ≡ r.past =
    ap (λ k. (k - 1) + 1) (turn-before ps (r.past - 1) (omega (arith, near.some, near.within, inside)))
    ∙ omega (arith, near.some) in
    rw (first, past) refl

turn-option : (ps : List (Bool × Bool)) (origin n : ℕ) (o : Option Report) →
    ((r : Report) → o ≡ Some r → IsNear n r) → n < length ps →
    option_map (λ r. moved origin (at_places (in_turn ps) r)) o ≡ option_map (moved origin) o
turn-option ps origin n None near inside = refl
turn-option ps origin n (Some r) near inside =
    ap (λ s. Some (moved origin s)) (turn-places ps n r (near r refl) inside)

turn-more : (ps : List (Bool × Bool)) (p : Bool × Bool) →
    in_turn (ps ++ p ∷ []) ≡ (in_turn ps ++ (First, p.0) ∷ []) ++ (Second, p.1) ∷ []
turn-more ps p =
    flat_map-append (λ (q : Bool × Bool). (First, q.0) ∷ (Second, q.1) ∷ []) ps (p ∷ [])
    ∙ sym (append_assoc (in_turn ps) ((First, p.0) ∷ []) ((Second, p.1) ∷ []))

turn-step : DueStays → DueIsIt → (origin longest : ℕ) (ps : List (Bool × Bool)) (p : Bool × Bool) →
    arrived origin longest (in_turn ps) ≡ merged origin longest ps →
    arrived origin longest (in_turn (ps ++ p ∷ [])) ≡ merged origin longest (ps ++ p ∷ [])
turn-step stays it origin longest ps p same =
    let xs = in_turn ps in
    let ys = xs ++ (First, p.0) ∷ [] in
    let n = length ps in
    let first_bits = turn-first ps in
    let second_bits : own Second ys ≡ seconds ps =
    own-append Second xs ((First, p.0) ∷ []) ∙ (append-nil (own Second xs) ∙ turn-second ps) in
    let one : decides origin longest xs (First, p.0) ≡ line_reports_at First origin longest (firsts ps ++ p.0 ∷ []) n =
    decides-first origin longest xs p.0
    ∙ ap (λ b. line_reports_at First origin longest (b ++ p.0 ∷ []) (length b)) first_bits
    ∙ ap (line_reports_at First origin longest (firsts ps ++ p.0 ∷ [])) (length-firsts ps) in
    let two : decides origin longest ys (Second, p.1) ≡ line_reports_at Second origin longest (seconds ps ++ p.1 ∷ []) n
    =
    decides-second origin longest ys p.1
    ∙ (ap (λ b. map (line_report (Some Second)) (option_to_list (option_map
    (λ r. moved origin (at_places (ys ++ (Second, p.1) ∷ []) r)) (due_at longest (b ++ p.1 ∷ []) (length b)))))
    second_bits
    ∙ (ap (λ k. map (line_report (Some Second)) (option_to_list (option_map
    (λ r. moved origin (at_places (ys ++ (Second, p.1) ∷ []) r)) (due_at longest (seconds ps ++ p.1 ∷ []) k))))
    (length-seconds ps)
    ∙ (ap (λ zs. map (line_report (Some Second)) (option_to_list (option_map
    (λ r. moved origin (at_places zs r)) (due_at longest (seconds ps ++ p.1 ∷ []) n)))) (sym (turn-more ps p))
    ∙ ap (λ o. map (line_report (Some Second)) (option_to_list o))
    (turn-option (ps ++ p ∷ []) origin n (due_at longest (seconds ps ++ p.1 ∷ []) n)
    (λ r is. let found = (it longest (seconds ps ++ p.1 ∷ []) n r).1 is in
    subst (λ k. IsNear k r) found.1 (report-near longest (seconds ps ++ p.1 ∷ []) r found.0))
    (omega (arith, length-append ps (p ∷ []))))))) in
    ap (arrived origin longest) (turn-more ps p)
    ∙ (arrived-more stays it origin longest ys (Second, p.1)
    ∙ (ap (λ hs. hs ++ decides origin longest ys (Second, p.1)) (arrived-more stays it origin longest xs (First, p.0))
    ∙ (append_assoc (arrived origin longest xs) (decides origin longest xs (First, p.0))
    (decides origin longest ys (Second, p.1))
    ∙ (ap (λ hs. hs ++ (decides origin longest xs (First, p.0) ++ decides origin longest ys (Second, p.1))) same
    ∙ (ap (λ hs. merged origin longest ps ++ (hs ++ decides origin longest ys (Second, p.1))) one
    ∙ (ap (λ hs. merged origin longest ps
    ++ (line_reports_at First origin longest (firsts ps ++ p.0 ∷ []) n ++ hs)) two
    ∙ sym (merged-more stays origin longest ps p)))))))

turn-from : DueStays → DueIsIt → (origin longest : ℕ) (ps qs : List (Bool × Bool)) →
    arrived origin longest (in_turn ps) ≡ merged origin longest ps →
    arrived origin longest (in_turn (ps ++ qs)) ≡ merged origin longest (ps ++ qs)
turn-from stays it origin longest ps [] same = rw (append-nil ps) same
turn-from stays it origin longest ps (q ∷ qs) same =
    let next = turn-from stays it origin longest (ps ++ q ∷ []) qs (turn-step stays it origin longest ps q same) in
    rw (append_assoc ps (q ∷ []) qs) at next

pub in-turn-merged : DueStays → DueIsIt → (origin longest : ℕ) (ps : List (Bool × Bool)) →
    arrived origin longest (in_turn ps) ≡ merged origin longest ps
in-turn-merged stays it origin longest ps = turn-from stays it origin longest [] ps refl
