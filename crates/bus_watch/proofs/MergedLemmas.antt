-- The merged reports of two lines, with pairs of bits more, and what they add up to.
use Rattle.std.proofs.Common.{◌≡◌, ℕ, zero, suc, ◌+◌, ◌<◌, Bool, List, [], ◌∷◌, ◌++◌, length, map, filter, Option, Some}
use Rattle.std.proofs.Common.{None, refl, sym, ap, ◌∙◌, arith, append-nil, append_assoc, length-append}
use Rattle.std.specs.List.{filter_map, cons_option, flat_map}
use Rattle.std.specs.Option.{option_map, option_to_list}
use Rattle.std.proofs.lemmas.List.{map-append, length-map, append_cancel_left, nil_from_length}
use Rattle.std.proofs.lemmas.List.Elements.{filter-append}
use Rattle.std.proofs.lemmas.Grind.{flat_map-append}
use Rattle.bus_line.specs.Report.{Report, moved}
use Rattle.bus_line.specs.Due.{reports, placed, places, due_at}
use Rattle.bus_line.specs.Laws.{DueStays, OneMore, ReportsGrow}
use Rattle.bus_line.specs.LineReport.{LineReport, line_report, firsts, seconds, line_reports_at, merged, is_line}
use Rattle.bus_line.specs.LineReport.{of_side}
use Rattle.bus_watch.specs.Decodes.{line_reports_of}
use Rattle.bus_line.proofs.DueMoreLemmas.{map-option}
use Rattle.bus_line.specs.declared.line.Line.{Line}
use Rattle.bus_line.specs.declared.line.Line.TheVariants.{First, Second}

flat_map-places : {Y : Type 0} (f g : ℕ → List Y) (n : ℕ) → ((i : ℕ) → i < n → f i ≡ g i) →
    flat_map f (places n) ≡ flat_map g (places n)
flat_map-places f g zero same = refl
flat_map-places f g (suc n) same =
    flat_map-append f (places n) (n ∷ [])
    ∙ (ap (λ ys. ys ++ flat_map f (n ∷ [])) (flat_map-places f g n (λ i before. same i (omega (arith, before))))
    ∙ (ap (λ ys. flat_map g (places n) ++ (ys ++ [])) (same n (omega arith))
    ∙ sym (flat_map-append g (places n) (n ∷ []))))

line_reports_at-append : DueStays → (line : Line) (origin longest : ℕ) (b : List Bool) (x : Bool) (i : ℕ) → i < length b
    →
    line_reports_at line origin longest (b ++ x ∷ []) i ≡ line_reports_at line origin longest b i
line_reports_at-append stays line origin longest b x i before =
    ap (λ o. map (line_report (Some line)) (option_to_list (option_map (moved origin) o)))
    (stays longest b (x ∷ []) i before)

-- what a pair of bits adds
abbrev pub added : ℕ → ℕ → List (Bool × Bool) → Bool × Bool → List LineReport
added origin longest ps p = line_reports_at First origin longest (firsts ps ++ p.0 ∷ []) (length ps)
    ++ line_reports_at Second origin longest (seconds ps ++ p.1 ∷ []) (length ps)

pub length-firsts : (ps : List (Bool × Bool)) → length (firsts ps) ≡ length ps
length-firsts ps = length-map ps (λ (p : Bool × Bool). p.0)

pub length-seconds : (ps : List (Bool × Bool)) → length (seconds ps) ≡ length ps
length-seconds ps = length-map ps (λ (p : Bool × Bool). p.1)

pub firsts-append : (ps qs : List (Bool × Bool)) → firsts (ps ++ qs) ≡ firsts ps ++ firsts qs
firsts-append ps qs = map-append (λ (p : Bool × Bool). p.0) ps qs

pub seconds-append : (ps qs : List (Bool × Bool)) → seconds (ps ++ qs) ≡ seconds ps ++ seconds qs
seconds-append ps qs = map-append (λ (p : Bool × Bool). p.1) ps qs

-- one pair more adds at most the first line's report and then the second's
pub merged-more : DueStays → (origin longest : ℕ) (ps : List (Bool × Bool)) (p : Bool × Bool) →
    merged origin longest (ps ++ p ∷ []) ≡ merged origin longest ps ++ added origin longest ps p
merged-more stays origin longest ps p =
    let n = length ps in
    let f : ℕ → List LineReport = λ i. line_reports_at First origin longest (firsts ps ++ p.0 ∷ []) i
    ++ line_reports_at Second origin longest (seconds ps ++ p.1 ∷ []) i in
    let g : ℕ → List LineReport = λ i. line_reports_at First origin longest (firsts ps) i
    ++ line_reports_at Second origin longest (seconds ps) i in
    let count : length (ps ++ p ∷ []) ≡ suc n = omega (arith, length-append ps (p ∷ [])) in
    rw (firsts-append ps (p ∷ []), seconds-append ps (p ∷ []), count)
    (flat_map-append f (places n) (n ∷ [])
    ∙ (ap (λ ys. ys ++ (f n ++ [])) (flat_map-places f g n (λ i before.
    ap (λ hs. hs ++ line_reports_at Second origin longest (seconds ps ++ p.1 ∷ []) i)
    (line_reports_at-append stays First origin longest (firsts ps) p.0 i (omega (arith, before, length-firsts ps)))
    ∙ ap (λ hs. line_reports_at First origin longest (firsts ps) i ++ hs)
    (line_reports_at-append stays Second origin longest (seconds ps) p.1 i (omega (arith, before, length-seconds ps)))))
    ∙ ap (λ ys. merged origin longest ps ++ ys) (append-nil (f n))))

-- reports only grow
pub placed-grows : ReportsGrow → (origin longest : ℕ) (b c : List Bool) →
    (rs : List Report) × (placed origin longest (b ++ c) ≡ placed origin longest b ++ rs)
placed-grows grow origin longest b c =
    let grown = grow longest b c in (
      map (moved origin) grown.0,
      ap (map (moved origin)) grown.1 ∙ map-append (moved origin) (reports longest b) grown.0,
    )

-- where bits decide nothing, no front of them does
quiet-front : ReportsGrow → (origin longest : ℕ) (b c d : List Bool) →
    placed origin longest (b ++ (c ++ d)) ≡ placed origin longest b →
    placed origin longest (b ++ c) ≡ placed origin longest b
quiet-front grow origin longest b c d quiet =
    let first = placed-grows grow origin longest b c in
    let next = placed-grows grow origin longest (b ++ c) d in
    let none : length first.0 ≡ 0 = omega (
      arith,
      ap length first.1,
      length-append (placed origin longest b) first.0,
      ap length next.1,
      length-append (placed origin longest (b ++ c)) next.0,
      ap length quiet,
      ap (λ (x : List Bool). length (placed origin longest x)) (append_assoc b c d),
    ) in
    first.1 ∙ (ap (λ rs. placed origin longest b ++ rs) (nil_from_length first.0 none)
    ∙ append-nil (placed origin longest b))

-- what one bit more adds to the reports of a line
pub bit-adds : OneMore → (origin longest : ℕ) (b : List Bool) (x : Bool) → placed origin longest (b ++ x ∷ [])
    ≡ placed origin longest b
    ++ option_to_list (option_map (moved origin) (due_at longest (b ++ x ∷ []) (length b)))
bit-adds more origin longest b x =
    let o = due_at longest (b ++ x ∷ []) (length b) in
    ap (map (moved origin)) (more longest b x)
    ∙ (map-append (moved origin) (reports longest b) (option_to_list o)
    ∙ ap (λ rs. placed origin longest b ++ rs) (map-option (moved origin) o))

-- and what is reported at it
due-from : OneMore → (line : Line) (origin longest : ℕ) (b : List Bool) (x : Bool) (r : Option Report) →
    placed origin longest (b ++ x ∷ []) ≡ placed origin longest b ++ option_to_list r
    → line_reports_at line origin longest (b ++ x ∷ []) (length b) ≡ line_reports_of (Some line) r
due-from more line origin longest b x r adds =
    ap (map (line_report (Some line)))
    (append_cancel_left (placed origin longest b) _ _ (sym (bit-adds more origin longest b x) ∙ adds))

-- what a pair adds, by what it decides on each line
added-is : OneMore → (origin longest : ℕ) (ps : List (Bool × Bool)) (p : Bool × Bool) (r s : Option Report)
    → placed origin longest (firsts ps ++ p.0 ∷ []) ≡ placed origin longest (firsts ps) ++ option_to_list r
    → placed origin longest (seconds ps ++ p.1 ∷ []) ≡ placed origin longest (seconds ps) ++ option_to_list s
    → added origin longest ps p ≡ line_reports_of (Some First) r ++ line_reports_of (Some Second) s
added-is more origin longest ps p r s first_adds second_adds =
    let one : line_reports_at First origin longest (firsts ps ++ p.0 ∷ []) (length ps) ≡ line_reports_of (Some First) r
    =
    ap (line_reports_at First origin longest (firsts ps ++ p.0 ∷ [])) (sym (length-firsts ps))
    ∙ due-from more First origin longest (firsts ps) p.0 r first_adds in
    let two : line_reports_at Second origin longest (seconds ps ++ p.1 ∷ []) (length ps) ≡ line_reports_of (Some Second)
    s =
    ap (line_reports_at Second origin longest (seconds ps ++ p.1 ∷ [])) (sym (length-seconds ps))
    ∙ due-from more Second origin longest (seconds ps) p.1 s second_adds in
    ap (λ hs. hs ++ line_reports_at Second origin longest (seconds ps ++ p.1 ∷ []) (length ps)) one
    ∙ ap (λ hs. line_reports_of (Some First) r ++ hs) two

-- pairs at which the second line reports nothing
merged-first-alone : DueStays → OneMore → ReportsGrow →
    (origin longest : ℕ) (ps xs : List (Bool × Bool)) (rs : List Report)
    → placed origin longest (firsts ps ++ firsts xs) ≡ placed origin longest (firsts ps) ++ rs →
    placed origin longest (seconds ps ++ seconds xs) ≡ placed origin longest (seconds ps)
    → merged origin longest (ps ++ xs) ≡ merged origin longest ps ++ map (line_report (Some First)) rs
merged-first-alone stays more grow origin longest ps [] rs adds quiet =
    let none : rs ≡ [] = append_cancel_left (placed origin longest (firsts ps)) rs []
    (sym adds ∙ (ap (placed origin longest) (append-nil (firsts ps))
    ∙ sym (append-nil (placed origin longest (firsts ps))))) in
    rw none (ap (merged origin longest) (append-nil ps) ∙ sym (append-nil (merged origin longest ps)))
merged-first-alone stays more grow origin longest ps (x ∷ xs) rs adds quiet =
    let qs : List (Bool × Bool) = ps ++ x ∷ [] in
    let r = option_map (moved origin) (due_at longest (firsts ps ++ x.0 ∷ []) (length (firsts ps))) in
    let x_adds = bit-adds more origin longest (firsts ps) x.0 in
    let x_quiet = quiet-front grow origin longest (seconds ps) (x.1 ∷ []) (seconds xs) quiet in
    let rest = placed-grows grow origin longest (firsts ps ++ x.0 ∷ []) (firsts xs) in
    let parts : rs ≡ option_to_list r ++ rest.0 =
    append_cancel_left (placed origin longest (firsts ps)) rs (option_to_list r ++ rest.0)
    (sym adds
    ∙ (ap (placed origin longest) (sym (append_assoc (firsts ps) (x.0 ∷ []) (firsts xs)))
    ∙ (rest.1
    ∙ (ap (λ more. more ++ rest.0) x_adds
    ∙ append_assoc (placed origin longest (firsts ps)) (option_to_list r) rest.0)))) in
    let step : merged origin longest qs ≡ merged origin longest ps ++ line_reports_of (Some First) r =
    merged-more stays origin longest ps x
    ∙ ap (λ hs. merged origin longest ps ++ hs)
    (added-is more origin longest ps x r None x_adds (x_quiet ∙ sym (append-nil (placed origin longest (seconds ps))))
    ∙ append-nil (line_reports_of (Some First) r)) in
    let rest_adds : placed origin longest (firsts qs ++ firsts xs) ≡ placed origin longest (firsts qs) ++ rest.0 =
    rw (firsts-append ps (x ∷ [])) rest.1 in
    let rest_quiet : placed origin longest (seconds qs ++ seconds xs) ≡ placed origin longest (seconds qs) =
    rw (seconds-append ps (x ∷ []))
    (ap (placed origin longest) (append_assoc (seconds ps) (x.1 ∷ []) (seconds xs)) ∙ (quiet ∙ sym x_quiet)) in
    ap (merged origin longest) (sym (append_assoc ps (x ∷ []) xs))
    ∙ (merged-first-alone stays more grow origin longest qs xs rest.0 rest_adds rest_quiet
    ∙ (ap (λ hs. hs ++ map (line_report (Some First)) rest.0) step
    ∙ (append_assoc (merged origin longest ps) (line_reports_of (Some First) r) (map (line_report (Some First)) rest.0)
    ∙ ap (λ hs. merged origin longest ps ++ hs)
    (sym (ap (map (line_report (Some First))) parts ∙ map-append (line_report (Some First)) (option_to_list r)
    rest.0)))))

-- pairs of which at most the last decides a report of the second line add these
pub merged-led : DueStays → OneMore → ReportsGrow →
    (origin longest : ℕ) (ps xs : List (Bool × Bool)) (x : Bool × Bool) (rs : List Report) (s : Option Report)
    → placed origin longest (firsts ps ++ firsts (xs ++ x ∷ [])) ≡ placed origin longest (firsts ps) ++ rs
    → placed origin longest (seconds ps ++ seconds xs) ≡ placed origin longest (seconds ps)
    → placed origin longest (seconds ps ++ seconds (xs ++ x ∷ []))
    ≡ placed origin longest (seconds ps) ++ option_to_list s
    → merged origin longest (ps ++ (xs ++ x ∷ [])) ≡ merged origin longest ps
    ++ (map (line_report (Some First)) rs ++ line_reports_of (Some Second) s)
merged-led stays more grow origin longest ps xs x rs s first_adds quiet second_adds =
    let qs : List (Bool × Bool) = ps ++ xs in
    let r = option_map (moved origin) (due_at longest (firsts qs ++ x.0 ∷ []) (length (firsts qs))) in
    let x_adds = bit-adds more origin longest (firsts qs) x.0 in
    let before = placed-grows grow origin longest (firsts ps) (firsts xs) in
    let fronts : firsts qs ++ x.0 ∷ [] ≡ firsts ps ++ firsts (xs ++ x ∷ []) =
    rw (firsts-append ps xs, firsts-append xs (x ∷ [])) (append_assoc (firsts ps) (firsts xs) (x.0 ∷ [])) in
    let backs : seconds qs ++ x.1 ∷ [] ≡ seconds ps ++ seconds (xs ++ x ∷ []) =
    rw (seconds-append ps xs, seconds-append xs (x ∷ [])) (append_assoc (seconds ps) (seconds xs) (x.1 ∷ [])) in
    let front : placed origin longest (firsts qs) ≡ placed origin longest (firsts ps) ++ before.0 =
    ap (placed origin longest) (firsts-append ps xs) ∙ before.1 in
    let parts : rs ≡ before.0 ++ option_to_list r =
    append_cancel_left (placed origin longest (firsts ps)) rs (before.0 ++ option_to_list r)
    (sym first_adds ∙ (ap (placed origin longest) (sym fronts)
    ∙ (x_adds ∙ (ap (λ more. more ++ option_to_list r) front
    ∙ append_assoc (placed origin longest (firsts ps)) before.0 (option_to_list r))))) in
    let last : placed origin longest (seconds qs ++ x.1 ∷ []) ≡ placed origin longest (seconds qs) ++ option_to_list s =
    ap (placed origin longest) backs ∙ (second_adds
    ∙ ap (λ more. more ++ option_to_list s) (sym (ap (placed origin longest) (seconds-append ps xs) ∙ quiet))) in
    let hs : List LineReport = map (line_report (Some First)) before.0 in
    let is : List LineReport = line_reports_of (Some First) r in
    let js : List LineReport = line_reports_of (Some Second) s in
    ap (merged origin longest) (sym (append_assoc ps xs (x ∷ [])))
    ∙ (merged-more stays origin longest qs x
    ∙ (ap (λ hs. merged origin longest qs ++ hs) (added-is more origin longest qs x r s x_adds last)
    ∙ (ap (λ hs. hs ++ (is ++ js)) (merged-first-alone stays more grow origin longest ps xs before.0 before.1 quiet)
    ∙ (append_assoc (merged origin longest ps) hs (is ++ js)
    ∙ ap (λ hs. merged origin longest ps ++ hs)
    (sym (append_assoc hs is js)
    ∙ ap (λ hs. hs ++ js)
    (sym (ap (map (line_report (Some First))) parts
    ∙ map-append (line_report (Some First)) before.0 (option_to_list r))))))))

-- a line by itself
reports-list : (line : Line) (origin longest : ℕ) (b : List Bool) (is : List ℕ) →
    flat_map (line_reports_at line origin longest b) is
    ≡ map (line_report (Some line)) (map (moved origin) (filter_map (due_at longest b) is))
reports-list line origin longest b [] = refl
reports-list line origin longest b (i ∷ is) = one (due_at longest b i)
    ∙ ap (λ hs. map (line_report (Some line)) (map (moved origin) (cons_option (due_at longest b i) [])) ++ hs)
    (reports-list line origin longest b is) ∙ two (due_at longest b i)
  where
    rest : List LineReport
    rest = flat_map (line_reports_at line origin longest b) is

    rs : List Report
    rs = filter_map (due_at longest b) is

    one : (o : Option Report) → map (line_report (Some line)) (option_to_list (option_map (moved origin) o)) ++ rest
        ≡ map (line_report (Some line)) (map (moved origin) (cons_option o [])) ++ rest
    one None = refl
    one (Some r) = refl

    two : (o : Option Report) → map (line_report (Some line)) (map (moved origin) (cons_option o []))
        ++ map (line_report (Some line)) (map (moved origin) rs)
        ≡ map (line_report (Some line)) (map (moved origin) (cons_option o rs))
    two None = refl
    two (Some r) = refl

abbrev pub of_one : Line → ℕ → ℕ → List Bool → List LineReport
of_one line origin longest b = map (line_report (Some line)) (placed origin longest b)

-- what adds up over lists, adds up over the merged reports
flat-sum : (m : List LineReport → ℕ) → m [] ≡ 0 → ((xs ys : List LineReport) → m (xs ++ ys) ≡ m xs + m ys) →
    (f g : ℕ → List LineReport) (is : List ℕ)
    → m (flat_map (λ i. f i ++ g i) is) ≡ m (flat_map f is) + m (flat_map g is)
flat-sum m none more f g [] = omega (arith, none)
flat-sum m none more f g (i ∷ is) =
    omega (
      arith,
      more (f i ++ g i) (flat_map (λ i. f i ++ g i) is),
      more (f i) (g i),
      flat-sum m none more f g is,
      more (f i) (flat_map f is),
      more (g i) (flat_map g is),
    )

pub merged-adds : (m : List LineReport → ℕ) → m [] ≡ 0 → ((xs ys : List LineReport) → m (xs ++ ys) ≡ m xs + m ys) →
    (origin longest : ℕ) (ps : List (Bool × Bool))
    → m (merged origin longest ps) ≡ m (of_one First origin longest (firsts ps))
    + m (of_one Second origin longest (seconds ps))
merged-adds m none more origin longest ps =
    let n = length ps in
    flat-sum m none more (line_reports_at First origin longest (firsts ps))
    (line_reports_at Second origin longest (seconds ps))
    (places n)
    ∙ (ap (λ hs. m hs + m (flat_map (line_reports_at Second origin longest (seconds ps)) (places n)))
    (reports-list First origin longest (firsts ps) (places n)
    ∙ ap (λ k. map (line_report (Some First)) (map (moved origin) (filter_map (due_at longest (firsts ps)) (places k))))
    (sym (length-firsts ps)))
    ∙ ap (λ hs. m (of_one First origin longest (firsts ps)) + m hs)
    (reports-list Second origin longest (seconds ps) (places n)
    ∙ ap (λ k. map (line_report (Some Second))
    (map (moved origin) (filter_map (due_at longest (seconds ps)) (places k)))) (sym (length-seconds ps))))

-- either line by itself among them
side-append : (line : Line) (xs ys : List LineReport) → of_side line (xs ++ ys) ≡ of_side line xs ++ of_side line ys
side-append line xs ys = ap (map (λ (h : LineReport). h.report))
    (filter-append (λ (h : LineReport). is_line line h.line) xs ys)
    ∙ map-append (λ (h : LineReport). h.report) (filter (λ (h : LineReport). is_line line h.line) xs)
    (filter (λ (h : LineReport). is_line line h.line) ys)

side-same : (line : Line) (rs : List Report) → of_side line (map (line_report (Some line)) rs) ≡ rs
side-same First [] = refl
side-same First (r ∷ rs) = ap (λ xs. r ∷ xs) (side-same First rs)
side-same Second [] = refl
side-same Second (r ∷ rs) = ap (λ xs. r ∷ xs) (side-same Second rs)

side-other : (rs : List Report) → (of_side First (map (line_report (Some Second)) rs) ≡ [])
    × (of_side Second (map (line_report (Some First)) rs) ≡ [])
side-other [] = (refl, refl)
side-other (r ∷ rs) = side-other rs

flat-side : (line : Line) (f g : ℕ → List LineReport) (h : ℕ → List Report) (is : List ℕ) →
    ((i : ℕ) → of_side line (f i) ++ of_side line (g i) ≡ h i) →
    of_side line (flat_map (λ i. f i ++ g i) is) ≡ flat_map h is
flat-side line f g h [] parts = refl
flat-side line f g h (i ∷ is) parts =
    side-append line (f i ++ g i) (flat_map (λ i. f i ++ g i) is)
    ∙ (ap (λ xs. xs ++ of_side line (flat_map (λ i. f i ++ g i) is)) (side-append line (f i) (g i) ∙ parts i)
    ∙ ap (λ xs. h i ++ xs) (flat-side line f g h is parts))

flat-placed : (origin longest : ℕ) (b : List Bool) (is : List ℕ) →
    flat_map (λ i. option_to_list (option_map (moved origin) (due_at longest b i))) is
    ≡ map (moved origin) (filter_map (due_at longest b) is)
flat-placed origin longest b [] = refl
flat-placed origin longest b (i ∷ is) =
    ap (λ xs. option_to_list (option_map (moved origin) (due_at longest b i)) ++ xs) (flat-placed origin longest b is)
    ∙ two (due_at longest b i)
  where
    rs : List Report
    rs = filter_map (due_at longest b) is

    two : (o : Option Report) → option_to_list (option_map (moved origin) o) ++ map (moved origin) rs
        ≡ map (moved origin) (cons_option o rs)
    two None = refl
    two (Some r) = refl

pub merged-first : (longest origin : ℕ) (ps : List (Bool × Bool)) →
    of_side First (merged origin longest ps) ≡ placed origin longest (firsts ps)
merged-first longest origin ps =
    let n = length ps in
    let due : List Bool → ℕ → List Report = λ b i. option_to_list (option_map (moved origin) (due_at longest b i)) in
    flat-side First (line_reports_at First origin longest (firsts ps))
    (line_reports_at Second origin longest (seconds ps))
    (due (firsts ps)) (places n)
    (λ i. ap (λ xs. xs ++ of_side First (line_reports_at Second origin longest (seconds ps) i))
    (side-same First (due (firsts ps) i))
    ∙ (ap (λ xs. due (firsts ps) i ++ xs) (side-other (due (seconds ps) i)).0 ∙ append-nil (due (firsts ps) i)))
    ∙ (flat-placed origin longest (firsts ps) (places n)
    ∙ ap (λ k. map (moved origin) (filter_map (due_at longest (firsts ps)) (places k)))
    (sym (length-firsts ps)))

pub merged-second : (longest origin : ℕ) (ps : List (Bool × Bool)) →
    of_side Second (merged origin longest ps) ≡ placed origin longest (seconds ps)
merged-second longest origin ps =
    let n = length ps in
    let due : List Bool → ℕ → List Report = λ b i. option_to_list (option_map (moved origin) (due_at longest b i)) in
    flat-side Second (line_reports_at First origin longest (firsts ps))
    (line_reports_at Second origin longest (seconds ps))
    (due (seconds ps)) (places n)
    (λ i. ap (λ xs. xs ++ of_side Second (line_reports_at Second origin longest (seconds ps) i))
    (side-other (due (firsts ps) i)).1 ∙ side-same Second (due (seconds ps) i))
    ∙ (flat-placed origin longest (seconds ps) (places n)
    ∙ ap (λ k. map (moved origin) (filter_map (due_at longest (seconds ps)) (places k)))
    (sym (length-seconds ps)))
