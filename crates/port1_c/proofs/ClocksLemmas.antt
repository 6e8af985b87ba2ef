-- Arrivals that are taken one by one.
use Rattle.std.proofs.Common.{◌≡◌, ℕ, ◌+◌, ◌-◌, ◌<◌, ◌≤◌, List, [], ◌∷◌, ◌++◌, None, length, map, take, drop, get_or}
use Rattle.std.proofs.Common.{refl, sym, ap, ◌∙◌, arith, subst, append_assoc, append-nil}
use Rattle.std.proofs.lemmas.List.{map-append, take_more, get_or-drop, length-drop}
use Rattle.bus_line.specs.LineReport.{LineReport}
use Rattle.bus_line.specs.declared.line.Line.{Line}
use Rattle.bus_tap.specs.Arrival.{Arrival, arrived}
use Rattle.port1_c.specs.Clocks.{ClocksAfter, DecideNone, TakesArrivals, arrived_told, decided_told}
use Rattle.port1_c.specs.Line.{report_told}
use Rattle.port1_c.specs.Rest.{arrival_told, arrivals_told}
use Rattle.port1_c.specs.declared.arrival.Port1Arrival.{Port1Arrival}
use Rattle.port1_c.specs.declared.clocks.Port1Clocks.{Port1Clocks}
use Rattle.port1_c.specs.declared.report.Port1Report.{Port1Report}

-- arrival `i`, as it is read
abbrev pub arrival_at : List Port1Arrival → ℕ → Port1Arrival
arrival_at xs i = get_or xs i (record { line = 0; bit = 0 })

-- none are taken
pub told-none : (xs : List Port1Arrival) (at : ℕ) → arrivals_told xs at at ≡ []
told-none xs at =
    let none : at - at ≡ 0 = omega arith in
    ap (λ k. map arrival_told (take k (drop at xs))) none

-- the arrival with a number is the first from there on
from-there : (xs : List Port1Arrival) (i k : ℕ) →
    get_or (drop i xs) k (record { line = 0; bit = 0 }) ≡ arrival_at xs (i + k)
from-there xs i k = get_or-drop i xs k (record { line = 0; bit = 0 })

-- one more is taken
pub told-more : (xs : List Port1Arrival) (at i : ℕ) → at ≤ i → i < length xs →
    arrivals_told xs at (i + 1) ≡ arrivals_told xs at i ++ arrival_told (arrival_at xs i) ∷ []
told-more xs at i from within =
    let more : (i + 1) - at ≡ (i - at) + 1 = omega (arith, from) in
    let there : at + (i - at) ≡ i = omega (arith, from) in
    let inside : i - at < length (drop at xs) = rw (length-drop at xs) (omega (arith, from, within)) in
    let last : get_or (drop at xs) (i - at) (record { line = 0; bit = 0 }) ≡ arrival_at xs i =
    from-there xs at (i - at) ∙ ap (arrival_at xs) there in
    ap (λ k. map arrival_told (take k (drop at xs))) more
    ∙ ap (map arrival_told) (take_more (drop at xs) (i - at) (record { line = 0; bit = 0 }) inside
    ∙ ap (λ (x : Port1Arrival). take (i - at) (drop at xs) ++ x ∷ []) last)
    ∙ map-append arrival_told (take (i - at) (drop at xs)) (arrival_at xs i ∷ [])

-- the last one that is taken
pub last-taken : (xs : List Port1Arrival) (i : ℕ) → i < length xs →
    take 1 (drop ((i + 1) - 1) xs) ≡ arrival_at xs i ∷ []
last-taken xs i within =
    let same : (i + 1) - 1 ≡ i = omega arith in
    let inside : 0 < length (drop i xs) = rw (length-drop i xs) (omega (arith, within)) in
    let here : i + 0 ≡ i = omega arith in
    ap (λ k. take 1 (drop k xs)) same
    ∙ take_more (drop i xs) 0 (record { line = 0; bit = 0 }) inside
    ∙ ap (λ (x : Port1Arrival). x ∷ []) (from-there xs i 0 ∙ ap (arrival_at xs) here)

-- these, and one more behind them
pub behind : (xs : List Arrival) (ps : List Port1Arrival) (at i : ℕ) → at ≤ i → i < length ps →
    (xs ++ arrivals_told ps at i) ++ arrival_told (arrival_at ps i) ∷ [] ≡ xs ++ arrivals_told ps at (i + 1)
behind xs ps at i from within =
    append_assoc xs (arrivals_told ps at i) (arrival_told (arrival_at ps i) ∷ [])
    ∙ ap (λ l. xs ++ l) (sym (told-more ps at i from within))

pub takes-none : (c : Port1Clocks) (ps : List Port1Arrival) (at : ℕ) → TakesArrivals c ps at at c
takes-none c ps at = λ xs after.
    subst (ClocksAfter c) (sym (append-nil xs) ∙ ap (λ l. xs ++ l) (sym (told-none ps at))) after

pub takes-more : (old now new : Port1Clocks) (ps : List Port1Arrival) (at i : ℕ) → at ≤ i → i < length ps →
    TakesArrivals old ps at i now
    → ((ys : List Arrival) → ClocksAfter now ys → ClocksAfter new (ys ++ arrival_told (arrival_at ps i) ∷ []))
    → TakesArrivals old ps at (i + 1) new
takes-more old now new ps at i from within before step = λ xs after.
    subst (ClocksAfter new) (behind xs ps at i from within) (step (xs ++ arrivals_told ps at i) (before xs after))

pub decide-none : (c : Port1Clocks) (ps : List Port1Arrival) (at : ℕ) → DecideNone c ps at at
decide-none c ps at = λ xs after. ap (arrived_told c) (ap (λ l. xs ++ l) (told-none ps at) ∙ append-nil xs)

-- both have the reports of the same origin and longest frame
same-told : (now old : Port1Clocks) → now.first.words.longest ≡ old.first.words.longest
    → now.first.words.origin ≡ old.first.words.origin → (ys : List Arrival) → arrived_told now ys ≡ arrived_told old ys
same-told now old longest origin ys =
    ap (λ o. arrived o now.first.words.longest ys) origin ∙ ap (λ l. arrived old.first.words.origin l ys) longest

pub decides-more : (old now : Port1Clocks) (ps : List Port1Arrival) (at i : ℕ) (hs : List LineReport)
    → at ≤ i → i < length ps → now.first.words.longest ≡ old.first.words.longest
    → now.first.words.origin ≡ old.first.words.origin → TakesArrivals old ps at i now → DecideNone old ps at i
    → ((ys : List Arrival) → ClocksAfter now ys →
    arrived_told now (ys ++ arrival_told (arrival_at ps i) ∷ []) ≡ arrived_told now ys ++ hs)
    → (xs : List Arrival) → ClocksAfter old xs →
    arrived_told old (xs ++ arrivals_told ps at (i + 1)) ≡ arrived_told old xs ++ hs
decides-more old now ps at i hs from within longest origin takes none step xs after =
    let ys : List Arrival = xs ++ arrivals_told ps at i in
    let all : List Arrival = ys ++ arrival_told (arrival_at ps i) ∷ [] in
    ap (arrived_told old) (sym (behind xs ps at i from within))
    ∙ sym (same-told now old longest origin all)
    ∙ step ys (takes xs after)
    ∙ ap (λ l. l ++ hs) (same-told now old longest origin ys ∙ none xs after)

-- no report is told
told-nothing : (r : Port1Report) (octets : List ℕ) → r.kind ≡ 0 → report_told r octets ≡ None
told-nothing r octets none = rw (none) refl

pub nothing-decided : (c : Port1Clocks) (line : Line) (r : Port1Report) → r.kind ≡ 0 → decided_told c line r ≡ []
nothing-decided c line r none = rw (none) refl
