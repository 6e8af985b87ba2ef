-- A list that is cut at a flag.
use Rattle.std.proofs.Common.{◌≡◌, ℕ, ◌+◌, ◌-◌, ◌≤◌, ◌<◌, Bool, List, [], ◌∷◌, ◌++◌, length, Option, Some, None}
use Rattle.std.proofs.Common.{option_map, refl, sym, ap, ◌∙◌, subst, inl, inr, arith, append_assoc, append-nil}
use Rattle.std.proofs.Common.{length-append, zero, suc, false, take, drop}
use Rattle.std.specs.Option.{option_to_list}
use Rattle.std.proofs.lemmas.Bool.{cases_lt, both_ways}
use Rattle.bus_line.specs.Spelling.{ones}
use Rattle.bus_line.specs.Mark.{flag, IsFlag, IsIdle, IsPiece, StandsAt, StartsRun, IsAbort, IsMark}
use Rattle.bus_line.specs.Report.{Report, Kind, Frame, Damaged, Overlong, Abort, Idle, due, due_by, moved, IsReport}
use Rattle.bus_line.specs.Report.{closed, aborted, idle, IsClass}
use Rattle.bus_line.specs.Due.{due_at, reports, placed}
use Rattle.bus_line.specs.Suffix.{IsReportOf, closes, aborts, CutAtFlag}
use Rattle.bus_line.proofs.DueLemmas.{class-due}
use Rattle.bus_line.proofs.DueMoreLemmas.{reports-more, placed-more}
use Rattle.bus_line.proofs.ReportLemmas.{due-it}
use Rattle.bus_line.proofs.OwnedBitsLemmas.{ones-bit, flag-first}
use Rattle.std.specs.List.{slice_range}
use Rattle.std.proofs.Math.Seq.{drop-append-add}

-- ---- a list after another

pub stands-to : (u s : List Bool) (q : ℕ) (w : List Bool) → StandsAt s q w → StandsAt (u ++ s) (length u + q) w
stands-to u s q w h = ap (take (length w)) (drop-append-add u s q) ∙ h

pub stands-back : (u s : List Bool) (q : ℕ) (w : List Bool) → StandsAt (u ++ s) (length u + q) w → StandsAt s q w
stands-back u s q w h = sym (ap (take (length w)) (drop-append-add u s q)) ∙ h

pub fresh-to : (u s : List Bool) (q : ℕ) → 0 < q → StartsRun s q → StartsRun (u ++ s) (length u + q)
fresh-to u s zero l h = absurd (omega arith)
fresh-to u s (suc q) l h = let e : suc (length u + q) ≡ length u + suc q =
    omega arith in subst (StartsRun (u ++ s)) e (stands-to u s q (false ∷ []) h)

pub fresh-back : (u s : List Bool) (q : ℕ) → 0 < q → StartsRun (u ++ s) (length u + q) → StartsRun s q
fresh-back u s zero l h = absurd (omega arith)
fresh-back u s (suc q) l h = let e : length u + suc q ≡ suc (length u + q) =
    omega arith in stands-back u s q (false ∷ []) (subst (StartsRun (u ++ s)) e h)

mark-to : (u s : List Bool) (q : ℕ) → 0 < q → IsMark s q → IsMark (u ++ s) (length u + q)
mark-to u s q l (inl h) = inl (stands-to u s q flag h)
mark-to u s q l (inr h) = inr (stands-to u s q (ones 7) h.0, fresh-to u s q l h.1)

mark-back : (u s : List Bool) (q : ℕ) → 0 < q → IsMark (u ++ s) (length u + q) → IsMark s q
mark-back u s q l (inl h) = inl (stands-back u s q flag h)
mark-back u s q l (inr h) = inr (stands-back u s q (ones 7) h.0, fresh-back u s q l h.1)

mark-back_at : (u s : List Bool) (i q : ℕ) → length u + i < q → IsMark (u ++ s) q → IsMark s (q - length u)
mark-back_at u s i q l h = let e : q ≡ length u + (q - length u) =
    omega arith in mark-back u s (q - length u) (omega arith) (subst (IsMark (u ++ s)) e h)

piece-to : (u s : List Bool) (i m : ℕ) → IsPiece s i m → IsPiece (u ++ s) (length u + i) (length u + m)
piece-to u s i m h = record {
  opening = stands-to u s i flag h.opening;
  next = record {
    above = omega (arith, h.next.above);
    mark = mark-to u s m (omega (arith, h.next.above)) h.next.mark;
    least = λ q l k. omega (arith, h.next.least (q - length u) (omega arith) (mark-back_at u s i q l k));
  };
  some = omega (arith, h.some);
}

piece-back : (u s : List Bool) (i m : ℕ) → IsFlag s i → IsPiece (u ++ s) (length u + i) (length u + m) → IsPiece s i m
piece-back u s i m f h = record {
  opening = f;
  next = record {
    above = omega (arith, h.next.above);
    mark = mark-back u s m (omega (arith, h.next.above)) h.next.mark;
    least = λ q l k. omega (arith, h.next.least (length u + q) (omega arith) (mark-to u s q (omega arith) k));
  };
  some = omega (arith, h.some);
}

range-past : (u s : List Bool) (i m : ℕ) → slice_range (u ++ s) ((length u + i) + 8) (length u + m)
    ≡ slice_range s (i + 8) m
range-past u s i m =
    let e : (length u + i) + 8 ≡ length u + (i + 8) = omega arith in
    let d : (length u + m) - (length u + (i + 8)) ≡ m - (i + 8) = omega arith in
    rw e (ap (λ n. take n (drop (length u + (i + 8)) (u ++ s))) d
    ∙ ap (take (m - (i + 8))) (drop-append-add u s (i + 8)))

moved-is : (n i m : ℕ) (kind : Kind) → record { kind = kind; first = (n + i) + 8; past = n + m }
    ≡ moved n (record { kind = kind; first = i + 8; past = m })
moved-is n i m kind = let e : (n + i) + 8 ≡ n + (i + 8) =
    omega arith in ap (λ (x : ℕ). record { kind = kind; first = x; past = n + m }) e

pub report-to : (longest : ℕ) (u s : List Bool) (i : ℕ) (r : Report) → IsReportOf longest s i r →
    IsReportOf longest (u ++ s) (length u + i) (moved (length u) r)
report-to longest u s i _ (closes m kind h f c) =
    subst (IsReportOf longest (u ++ s) (length u + i)) (moved-is (length u) i m kind)
    (closes (length u + m) kind (piece-to u s i m h) (stands-to u s m flag f)
    (subst (λ raw. IsClass longest raw kind) (sym (range-past u s i m)) c))
report-to longest u s i _ (aborts m h f) =
    subst (IsReportOf longest (u ++ s) (length u + i)) (moved-is (length u) i m Abort)
    (aborts (length u + m) (piece-to u s i m h)
    (stands-to u s m (ones 7) f.0, fresh-to u s m (omega (arith, h.next.above)) f.1))

pub report-back : (longest : ℕ) (u s : List Bool) (i : ℕ) → IsFlag s i → (r : Report) →
    IsReportOf longest (u ++ s) (length u + i) r → (t : Report) × IsReportOf longest s i t × (r ≡ moved (length u) t)
report-back longest u s i g _ (closes k kind h f c) =
    let m = k - length u in
    let e : k ≡ length u + (k - length u) = omega (arith, h.next.above) in
    let p = piece-back u s i m g (subst (IsPiece (u ++ s) (length u + i)) e h) in
    let d = subst (λ j. IsClass longest (slice_range (u ++ s) ((length u + i) + 8) j) kind) e c in (
      record { kind = kind; first = i + 8; past = m },
      closes m kind p (stands-back u s m flag (subst (IsFlag (u ++ s)) e f))
          (subst (λ raw. IsClass longest raw kind) (range-past u s i m) d),
      ap (λ (x : ℕ). record { kind = kind; first = (length u + i) + 8; past = x }) e ∙ moved-is (length u) i m kind,
    )
report-back longest u s i g _ (aborts k h f) =
    let m = k - length u in
    let e : k ≡ length u + (k - length u) = omega (arith, h.next.above) in
    let p = piece-back u s i m g (subst (IsPiece (u ++ s) (length u + i)) e h) in
    let a = subst (IsAbort (u ++ s)) e f in (
      record { kind = Abort; first = i + 8; past = m },
      aborts m p (stands-back u s m (ones 7) a.0, fresh-back u s m (omega (arith, p.next.above)) a.1),
      ap (λ (x : ℕ). record { kind = Abort; first = (length u + i) + 8; past = x }) e ∙ moved-is (length u) i m Abort,
    )

-- ---- a list that is cut at a flag

of_flag : (longest : ℕ) (b : List Bool) (p : ℕ) (r : Report) → IsReportOf longest b p r → IsReport longest b r
of_flag longest b p _ (closes m kind piece end is-class) = closed p m kind piece end is-class
of_flag longest b p _ (aborts m piece end) = aborted p m piece end

due-moved-by : (n : ℕ) (kind : Kind) (first past : ℕ) → due_by kind (n + first) (n + past) ≡ n + due_by kind first past
due-moved-by n (Frame octets) first past = omega arith
due-moved-by n (Damaged cause) first past = omega arith
due-moved-by n Overlong first past = omega arith
due-moved-by n Abort first past = omega arith
due-moved-by n Idle first past = omega arith

due-moved : (n : ℕ) (r : Report) → due (moved n r) ≡ n + due r
due-moved n r = due-moved-by n r.kind r.first r.past

-- a flag's first bit is in no run of ones
not_in_run : (b : List Bool) (p a : ℕ) → IsFlag b p → IsIdle b a → a ≤ p → p < a + 15 → ⊥
not_in_run b p a is-flag is-idle begun inside =
    both_ways _ (flag-first b p is-flag) (ones-bit b a 15 p is-idle.0 refl begun inside)

-- ---- after a flag at its beginning, a list has the reports that it has by itself
to-past : (longest : ℕ) (u s : List Bool) (t : Report) → IsFlag s 0 → IsReport longest s t →
    IsReport longest (u ++ s) (moved (length u) t)
to-past longest u s _ start (closed p m kind piece end is-class) =
    of_flag longest (u ++ s) (length u + p) _ (report-to longest u s p _ (closes m kind piece end is-class))
to-past longest u s _ start (aborted p m piece end) =
    of_flag longest (u ++ s) (length u + p) _ (report-to longest u s p _ (aborts m piece end))
to-past longest u s _ start (idle a is-idle) =
    let some : 0 < a =
    elim (cases_lt 0 a) [ inl is ↦ is | inr none ↦ absurd (not_in_run s 0 a start is-idle none (omega arith)) ] in
    let past : length u + (a + 15) ≡ (length u + a) + 15 = omega arith in
    rw past (idle (length u + a) (stands-to u s a (ones 15) is-idle.0, fresh-to u s a some is-idle.1))

-- the flag of a piece that ends after a flag stands there, or after it
flag-past : (b : List Bool) (p m q : ℕ) → IsPiece b p m → IsFlag b q → q < m → q ≤ p
flag-past b p m q piece is-flag before =
    elim (cases_lt p q) [ inl past ↦ omega (arith, before, piece.next.least q past (inl is-flag)) | inr is ↦ is ]

back-of : (longest : ℕ) (u s : List Bool) (p : ℕ) (r : Report) → length u ≤ p → IsFlag (u ++ s) p →
    IsReportOf longest (u ++ s) p r → (t : Report) × IsReport longest s t × (r ≡ moved (length u) t)
back-of longest u s p r begun is-flag report =
    let i = p - length u in
    let place : p ≡ length u + (p - length u) = omega (arith, begun) in
    let found = report-back longest u s i (stands-back u s i flag (subst (IsFlag (u ++ s)) place is-flag)) r
    (subst (λ j. IsReportOf longest (u ++ s) j r) place report) in
    (found.0, of_flag longest s i found.0 found.1, found.2)

flag-there : (u s : List Bool) → IsFlag s 0 → IsFlag (u ++ s) (length u)
flag-there u s start = let here : length u + 0 ≡ length u = omega arith in rw here at (stands-to u s 0 flag start)

from-past : (longest : ℕ) (u s : List Bool) (r : Report) → IsFlag s 0 → IsReport longest (u ++ s) r →
    length u + 8 ≤ due r → (t : Report) × IsReport longest s t × (r ≡ moved (length u) t)
from-past longest u s _ start (closed p m kind piece end is-class) late =
    let before : length u < m = omega (arith, late, class-due longest _ kind (p + 8) m is-class) in
    let begun = flag-past (u ++ s) p m (length u) piece (flag-there u s start) before in
    back-of longest u s p _ begun piece.opening (closes m kind piece end is-class)
from-past longest u s _ start (aborted p m piece end) late =
    let begun = flag-past (u ++ s) p m (length u) piece (flag-there u s start) (omega (arith, late)) in
    back-of longest u s p _ begun piece.opening (aborts m piece end)
from-past longest u s _ start (idle a is-idle) late =
    let here = flag-there u s start in
    let above : length u < a =
    elim (cases_lt (length u) a)
    [ inl is ↦ is | inr in-run ↦ absurd (not_in_run (u ++ s) (length u) a here is-idle in-run (omega arith)) ] in
    let i = a - length u in
    let place : a ≡ length u + (a - length u) = omega (arith, above) in
    let run = subst (IsIdle (u ++ s)) place is-idle in
    let some : 0 < i = omega (arith, above) in
    let past : a + 15 ≡ length u + ((a - length u) + 15) = omega (arith, above) in (
      record { kind = Idle; first = i; past = i + 15 },
      idle i (stands-back u s i (ones 15) run.0, fresh-back u s i some run.1),
      ap (λ (n : ℕ). record { kind = Idle; first = n; past = a + 15 }) place
          ∙ ap (λ (n : ℕ). record { kind = Idle; first = length u + i; past = n }) past,
    )

-- ---- and so at each place after the flag
alike : (x y : Option Report) (f : Report → Report) → ((t : Report) → y ≡ Some t → x ≡ Some (f t)) →
    ((r : Report) → x ≡ Some r → (t : Report) × (y ≡ Some t)) → x ≡ option_map f y
alike x (Some t) f to back = to t refl
alike None None f to back = refl
alike (Some r) None f to back = let t = back r refl in absurd (cc (t.1))

due-past : (longest : ℕ) (u s : List Bool) (i : ℕ) → IsFlag s 0 → 8 ≤ i →
    due_at longest (u ++ s) (length u + i) ≡ option_map (moved (length u)) (due_at longest s i)
due-past longest u s i start late = alike (due_at longest (u ++ s) (length u + i)) (due_at longest s i)
    (moved (length u))
    (λ t here. let is = (due-it longest s i t).1 here in (due-it longest (u ++ s) (length u + i) (moved (length u) t)).0
    (to-past longest u s t start is.0, omega (arith, due-moved (length u) t, is.1)))
    (λ r here.
    let is = (due-it longest (u ++ s) (length u + i) r).1 here in
    let t = from-past longest u s r start is.0 (omega (arith, is.1, late)) in
    (t.0, (due-it longest s i t.0).0 (t.1, omega (arith, is.1, ap due t.2, due-moved (length u) t.0))))

-- ---- one bit after another
abbrev CutsAt : ℕ → List Bool → List Bool → Type 0
CutsAt longest u v = reports longest ((u ++ flag) ++ v) ≡ reports longest (u ++ flag)
    ++ placed (length u) longest (flag ++ v)

cut-step : (longest : ℕ) (u v : List Bool) (x : Bool) → CutsAt longest u v → CutsAt longest u (v ++ x ∷ [])
cut-step longest u v x cut =
    let n = length u in
    let s = (flag ++ v) ++ x ∷ [] in
    let o = option_map (moved n) (due_at longest s (length (flag ++ v))) in
    let all : ((u ++ flag) ++ v) ++ x ∷ [] ≡ u ++ s =
    ap (λ z. z ++ x ∷ []) (append_assoc u flag v) ∙ append_assoc u (flag ++ v) (x ∷ []) in
    let size : length ((u ++ flag) ++ v) ≡ n + length (flag ++ v) =
    ap length (append_assoc u flag v) ∙ length-append u (flag ++ v) in
    let some : 8 ≤ length (flag ++ v) = omega (arith, length-append flag v) in
    let first : IsFlag s 0 = refl in
    let due : due_at longest (((u ++ flag) ++ v) ++ x ∷ []) (length ((u ++ flag) ++ v)) ≡ o =
    ap (λ z. due_at longest z (length ((u ++ flag) ++ v))) all ∙ ap (due_at longest (u ++ s)) size
    ∙ due-past longest u s (length (flag ++ v)) first some in
    ap (reports longest) (sym (append_assoc (u ++ flag) v (x ∷ [])))
    ∙ reports-more longest ((u ++ flag) ++ v) x
    ∙ ap (λ z. reports longest ((u ++ flag) ++ v) ++ option_to_list z) due
    ∙ ap (λ z. z ++ option_to_list o) cut
    ∙ append_assoc (reports longest (u ++ flag)) (placed n longest (flag ++ v)) (option_to_list o)
    ∙ ap (λ z. reports longest (u ++ flag) ++ z)
    (sym (placed-more n longest (flag ++ v) x o refl) ∙ ap (placed n longest) (append_assoc flag v (x ∷ [])))

cut-more : (longest : ℕ) (u v t : List Bool) → CutsAt longest u v → CutsAt longest u (v ++ t)
cut-more longest u v [] cut = subst (CutsAt longest u) (sym (append-nil v)) cut
cut-more longest u v (x ∷ t) cut =
    rw (← append_assoc v (x ∷ []) t) (cut-more longest u (v ++ x ∷ []) t (cut-step longest u v x cut))

cut-none : (longest : ℕ) (u : List Bool) → CutsAt longest u []
cut-none longest u = ap (reports longest) (append-nil (u ++ flag)) ∙ sym (append-nil (reports longest (u ++ flag)))

pub cut-at-flag : CutAtFlag
cut-at-flag longest u t = cut-more longest u [] t (cut-none longest u)
