-- The reports of a list: all, no others, in order, and no other list is.
use Rattle.std.proofs.Common.{◌≡◌, ℕ, zero, suc, ◌+◌, ◌<◌, ◌↔◌, Bool, List, [], ◌∷◌, ◌++◌, length, Option, Some, None}
use Rattle.std.proofs.Common.{refl, sym, ap, ◌∙◌, subst, inl, inr, arith, get_or, ◌⊎◌}
use Rattle.std.specs.List.{filter_map, cons_option, Contains, AllPairs, All}
use Rattle.std.proofs.lemmas.List.{append-nil}
use Rattle.std.proofs.lemmas.List.Elements.{filter_map-append, Contains-append_left, Contains-append_right}
use Rattle.std.proofs.lemmas.List.Elements.{Contains-append_cases, Contains-get_or, All-contains}
use Rattle.std.proofs.lemmas.List.Quantifiers.{all_pairs_push}
use Rattle.std.proofs.lemmas.Bool.{cases_lt, cond-true, ltb-true, lt-ltb}
use Rattle.bus_line.specs.Report.{Report, due, IsReport, closed, aborted, idle, AreReports}
use Rattle.bus_line.specs.Spelling.{ones}
use Rattle.bus_line.specs.Mark.{flag, HasBegun}
use Rattle.bus_line.proofs.MarkLemmas.{stands-within, IsLastFlag, last_mark-flag, last_mark-is}
use Rattle.std.proofs.lemmas.Option.{cond_some}
use Rattle.bus_line.specs.Due.{Mark, NoMark, FlagAt, AbortAt, last_mark, due_at, places, reports, begun_by, begun}
use Rattle.bus_line.proofs.DueLemmas.{class-due, due_at-is, due_at-report}
use Rattle.bus_line.proofs.DueStreamLemmas.{mark-fits}

-- ---- lists that rise by a number of each element

pub one-is : {Y : Type 0} (x y : Y) → Contains (x ∷ []) y → x ≡ y
one-is x y h = let e : h.0 ≡ 0 = omega (arith, h.1) in subst (λ k. get_or (x ∷ []) k y ≡ y) e h.2

pairs-tail : {Y : Type 0} (R : Y → Y → Type 0) (x : Y) (xs : List Y) → AllPairs R (x ∷ xs) → AllPairs R xs
pairs-tail R x xs h = λ i j d l m. h (suc i) (suc j) d (omega arith) (omega arith)

pairs-head : {Y : Type 0} (R : Y → Y → Type 0) (x : Y) (xs : List Y) → AllPairs R (x ∷ xs) → All (R x) xs
pairs-head R x xs h = λ k d l. h 0 (suc k) d (omega arith) (omega arith)

cons-cases : {Y : Type 0} (x : Y) (xs : List Y) (y : Y) → Contains (x ∷ xs) y → (x ≡ y) ⊎ Contains xs y
cons-cases x xs y h = elim (Contains-append_cases (x ∷ []) xs y h) [ inl u ↦ inl (one-is x y u) | inr u ↦ inr u ]

abbrev Before : {Y : Type 0} → (Y → ℕ) → Y → Y → Type 0
Before key x y = key x < key y

tail-within :
    {Y : Type 0} (key : Y → ℕ) (x y : Y) (xs ys : List Y)
    → x ≡ y → All (Before key x) xs → ((z : Y) → Contains (x ∷ xs) z → Contains (y ∷ ys) z)
    → (z : Y) → Contains xs z → Contains ys z
tail-within key x y xs ys e up h z c =
    elim (cons-cases y ys z (h z (Contains-append_right (x ∷ []) xs z c))) [
      | inl u ↦ absurd (let k : x ≡ z = e ∙ u in omega (arith, All-contains (Before key x) xs z up c, ap key k))
      | inr u ↦ u
    ]

-- lists that rise and have the same elements are one
pub same-rising :
    {Y : Type 0} (key : Y → ℕ) (xs ys : List Y)
    → AllPairs (λ x y. key x < key y) xs → AllPairs (λ x y. key x < key y) ys
    → ((z : Y) → Contains xs z → Contains ys z) → ((z : Y) → Contains ys z → Contains xs z) → xs ≡ ys
same-rising key [] [] h k f g = refl
same-rising key [] (y ∷ ys) h k f g = absurd (omega (arith, (g y (0, omega arith, refl)).1))
same-rising key (x ∷ xs) [] h k f g = absurd (omega (arith, (f x (0, omega arith, refl)).1))
same-rising key (x ∷ xs) (y ∷ ys) h k f g =
    let e : x ≡ y = elim (cons-cases y ys x (f x (0, omega arith, refl))) [
      | inl u ↦ sym u
      | inr u ↦ elim (cons-cases x xs y (g y (0, omega arith, refl))) [
        | inl v ↦ v
        | inr v ↦
            let above = All-contains (Before key y) ys x (pairs-head (Before key) y ys k) u in
            let below = All-contains (Before key x) xs y (pairs-head (Before key) x xs h) v in
            absurd (omega (arith, above, below))
      ]
    ] in
    let there = tail-within key x y xs ys e (pairs-head (Before key) x xs h) f in
    let back = tail-within key y x ys xs (sym e) (pairs-head (Before key) y ys k) g in
    let t = same-rising key xs ys (pairs-tail (Before key) x xs h) (pairs-tail (Before key) y ys k) there back in
    cc

-- ---- the reports of a list: all, no others, in order, and no other list is

option-is : {Y : Type 0} (o : Option Y) (y : Y) → Contains (cons_option o []) y → o ≡ Some y
option-is None y has = absurd (omega (arith, has.1))
option-is (Some x) y has = ap Some (one-is x y has)

option-has : {Y : Type 0} (o : Option Y) (y : Y) → o ≡ Some y → Contains (cons_option o []) y
option-has o y is = rw is (0, omega arith, refl)

places-more : {Y : Type 0} (f : ℕ → Option Y) (n : ℕ) →
    filter_map f (places (suc n)) ≡ filter_map f (places n) ++ cons_option (f n) []
places-more f n = filter_map-append f (places n) (n ∷ [])

pub places-has : {Y : Type 0} (f : ℕ → Option Y) (n i : ℕ) (y : Y) → i < n → f i ≡ Some y →
    Contains (filter_map f (places n)) y
places-has f zero i y inside is = absurd (omega arith)
places-has f (suc n) i y inside is =
    rw (places-more f n) (elim (cases_lt i n) [
      | inl below ↦ Contains-append_left (filter_map f (places n)) _ y (places-has f n i y below is)
      | inr past ↦ let last : i ≡ n = omega arith in Contains-append_right (filter_map f (places n)) _ y
          (option-has (f n) y (ap f (sym last) ∙ is))
    ])

pub places-from : {Y : Type 0} (f : ℕ → Option Y) (n : ℕ) (y : Y) → Contains (filter_map f (places n)) y →
    (i : ℕ) × (i < n) × (f i ≡ Some y)
places-from f zero y has = absurd (omega (arith, has.1))
places-from f (suc n) y has =
    elim (Contains-append_cases (filter_map f (places n)) (cons_option (f n) []) y
    (subst (λ xs. Contains xs y) (places-more f n) has)) [
      | inl front ↦ let found = places-from f n y front in (found.0, omega (arith, found.1), found.2)
      | inr last ↦ (n, omega arith, option-is (f n) y last)
    ]

rising-option : (f : ℕ → Option Report) (n : ℕ) → ((i : ℕ) (r : Report) → f i ≡ Some r → due r ≡ i) →
    AllPairs (λ r s. due r < due s) (filter_map f (places n)) → (o : Option Report) → f n ≡ o →
    AllPairs (λ r s. due r < due s) (filter_map f (places n) ++ cons_option o [])
rising-option f n dues up None is = rw (append-nil (filter_map f (places n))) up
rising-option f n dues up (Some s) is =
    all_pairs_push (λ r s. due r < due s) (filter_map f (places n)) s up (λ k d below.
    let found = places-from f n _ (Contains-get_or (filter_map f (places n)) k d below) in
    omega (arith, found.1, dues found.0 _ found.2, dues n s is))

pub places-rising : (f : ℕ → Option Report) (n : ℕ) → ((i : ℕ) (r : Report) → f i ≡ Some r → due r ≡ i) →
    AllPairs (λ r s. due r < due s) (filter_map f (places n))
places-rising f zero dues = λ i j d l m. absurd (omega arith)
places-rising f (suc n) dues = rw (places-more f n) (rising-option f n dues (places-rising f n dues) (f n) refl)

-- one bit decides at most one report
pub due-once : (longest : ℕ) (b : List Bool) (r s : Report) → IsReport longest b r → IsReport longest b s →
    due r ≡ due s → r ≡ s
due-once longest b r s one other same =
    let here = due_at-is longest b r one in let there = due_at-is longest b s other in
    let at = ap (due_at longest b) same in cc

pub due-within : (longest : ℕ) (b : List Bool) (r : Report) → IsReport longest b r → due r < length b
due-within longest b _ (closed p m kind piece end is-class) =
    omega (arith, class-due longest _ kind (p + 8) m is-class, stands-within b m flag end (omega arith))
due-within longest b _ (aborted p m piece end) = omega (arith, stands-within b m (ones 7) end.0 (omega arith))
due-within longest b _ (idle a end) = omega (arith, stands-within b a (ones 15) end.0 (omega arith))

pub reports-are : (longest : ℕ) (b : List Bool) → AreReports longest b (reports longest b)
reports-are longest b = record {
  all = λ r. (
    λ is. places-has (due_at longest b) (length b) (due r) r (due-within longest b r is) (due_at-is longest b r is),
    λ is. let found = places-from (due_at longest b) (length b) r is in (due_at-report longest b found.0 r found.2).0,
  );
  rising = places-rising (due_at longest b) (length b) (λ i r is. (due_at-report longest b i r is).1);
}

pub reports-only : (longest : ℕ) (b : List Bool) (rs : List Report) → AreReports longest b rs → rs ≡ reports longest b
reports-only longest b rs are =
    let computed = reports-are longest b in
    same-rising due rs (reports longest b) are.rising computed.rising (λ r has. (computed.all r).0 ((are.all r).1 has))
    (λ r has. (are.all r).0 ((computed.all r).1 has))

-- the report that is due at a place is computed
pub due-it : (longest : ℕ) (b : List Bool) (i : ℕ) (r : Report) →
    (IsReport longest b r × (due r ≡ i)) ↔ (due_at longest b i ≡ Some r)
due-it longest b i r = (
  λ is. ap (due_at longest b) (sym is.1) ∙ due_at-is longest b r is.0,
  λ is. due_at-report longest b i r is,
)

pub begun_by-Some : (mark : Mark) (n first : ℕ) → begun_by mark n ≡ Some first →
    (p : ℕ) × (mark ≡ FlagAt p) × (p + 8 < n) × (p + 8 ≡ first)
begun_by-Some NoMark n first is = absurd (cc)
begun_by-Some (AbortAt a) n first is = absurd (cc)
begun_by-Some (FlagAt p) n first is = let parts = cond_some _ _ _ is in (p, refl, ltb-true (p + 8) n parts.0, parts.1)

begun-to : (b : List Bool) (first : ℕ) → HasBegun b first → begun b ≡ Some first
begun-to b first has =
    let last : IsLastFlag b (length b) has.flag_at = record {
      flag = has.opening;
      below = omega (arith, has.behind, has.some);
      greatest = λ q above mark. absurd (omega (arith, has.greatest q mark, above));
    } in
    ap (λ m. begun_by m (length b)) (last_mark-is b (length b) has.flag_at last)
    ∙ (cond-true _ _ _ (lt-ltb (has.flag_at + 8) _ (omega (arith, has.behind, has.some))) ∙ ap Some (sym has.behind))

begun-from : (b : List Bool) (first : ℕ) → begun b ≡ Some first → HasBegun b first
begun-from b first is =
    let found = begun_by-Some (last_mark b (length b)) (length b) first is in
    let last = last_mark-flag b (length b) found.0 found.1 in
    record {
      flag_at = found.0;
      opening = last.flag;
      greatest = λ q mark. elim (cases_lt found.0 q) [
        | inl past ↦ absurd (omega (arith, last.greatest q past mark, mark-fits b q mark))
        | inr is ↦ is
      ];
      behind = sym found.3;
      some = omega (arith, found.2, found.3);
    }

-- where a piece has begun is computed
pub begun-it : (b : List Bool) (first : ℕ) → HasBegun b first ↔ (begun b ≡ Some first)
begun-it b first = (begun-to b first, begun-from b first)
