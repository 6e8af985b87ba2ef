-- What one bit more does.
use Rattle.std.proofs.Common.{◌≡◌, ◌≢◌, ℕ, zero, suc, ◌+◌, ◌-◌, ◌≤◌, ◌<◌, Bool, true, false, List, [], ◌∷◌, ◌++◌}
use Rattle.std.proofs.Common.{length, take, drop, get_or, Some, None, refl, sym, ap, ◌∙◌, subst, ◌⊎◌, inl, inr, arith}
use Rattle.std.specs.List.{slice_range}
use Rattle.std.proofs.lemmas.List.{append_assoc, length-append, length_push, length-replicate, length-drop, take_all}
use Rattle.std.proofs.lemmas.List.{drop_at, take-append-drop, get_or_push, drop_more}
use Rattle.std.proofs.lemmas.Bool.{cases_lt, false_from_ne_true, cond-false, both_ways, true≢false}
use Rattle.bus_line.specs.Spelling.{ones}
use Rattle.bus_line.specs.Run.{ones_after, ones_at_end}
use Rattle.bus_line.proofs.RunLemmas.{ones_after-more}
use Rattle.bus_line.specs.Mark.{flag, StandsAt, StartsRun, IsFlag, IsAbort, IsMark}
use Rattle.bus_line.specs.Report.{Abort, Idle, Report}
use Rattle.bus_line.specs.Due.{is_flag, is_abort, FlagAt, AbortAt, last_mark, class_of, piece_report, due_at, current}
use Rattle.bus_line.specs.Due.{Mark}
use Rattle.bus_line.proofs.MarkLemmas.{flag-true, flag-is, abort-true, abort-is, stands-within, stands-bit}
use Rattle.bus_line.proofs.MarkLemmas.{window-append, is_abort-append, last_mark-append, flag-abort, fresh-bit}
use Rattle.bus_line.proofs.MarkLemmas.{stands-part}
use Rattle.bus_line.proofs.DueLemmas.{due_at-flag, due_at-abort, due_at-idle, no-flag, no-abort, no-idle}
use Rattle.std.specs.Prelude.{◌≡◌, ℕ, Bool, List, [], ◌∷◌, ◌++◌, length, Option}

-- ---- what one bit more does, in terms of the ones at the end and the last mark

-- the bit decides this report, or none, and leaves this mark as the last
pub record Decides (longest : ℕ) (b : List Bool) (bit : Bool) (report : Option Report) (mark : Mark) : Type 0 where
  pub answers : due_at longest (b ++ bit ∷ []) (length b) ≡ report
  pub leaves : current (b ++ bit ∷ []) ≡ mark

-- ---- what one bit more does

-- the ones at the end
pub ones_after-ones : (j k : ℕ) → ones_after j (ones k) ≡ j + k
ones_after-ones j zero = omega arith
ones_after-ones j (suc k) = ones_after-ones (suc j) k ∙ omega arith

pub ones_after-last : (j : ℕ) (u : List Bool) (k : ℕ) → ones_after j (u ++ false ∷ ones k) ≡ k
ones_after-last j [] k = ones_after-ones 0 k ∙ omega arith
ones_after-last j (true ∷ u) k = ones_after-last (suc j) u k
ones_after-last j (false ∷ u) k = ones_after-last 0 u k

-- a list is ones alone, or ends in a 0 and its ones
pub runs : (j : ℕ) (b : List Bool) → ((b ≡ ones (length b)) × (ones_after j b ≡ j + length b)) ⊎
    ((u : List Bool) × (b ≡ u ++ false ∷ ones (ones_after j b)))
runs j [] = inl (refl, omega arith)
runs j (true ∷ b) = elim (runs (suc j) b) [
  | inl alone ↦ inl (ap (λ x. true ∷ x) alone.0, alone.1 ∙ omega arith)
  | inr last ↦ inr (true ∷ last.0, ap (λ x. true ∷ x) last.1)
]
runs j (false ∷ b) = elim (runs 0 b) [
  | inl alone ↦ let all : length b ≡ ones_after 0 b =
      omega (arith, alone.1) in inr ([], ap (λ x. false ∷ x) (alone.0 ∙ ap ones all))
  | inr last ↦ inr (false ∷ last.0, ap (λ x. false ∷ x) last.1)
]

stands-end : (u w : List Bool) → StandsAt (u ++ w) (length u) w
stands-end u w = ap (take (length w)) (drop_at u w (length u) refl) ∙ take_all (length w) w (omega arith)

-- a run of ones that ends where the list ends
pub run-end : (b : List Bool) (a k : ℕ) → StandsAt b a (ones k) → StartsRun b a → a + k ≡ length b → ones_at_end b ≡ k
run-end b zero k stands start end =
    let all : b ≡ ones k = sym (take_all (length (ones k)) b (omega (arith, length-replicate k true))) ∙ stands in
    ap (ones_after 0) all ∙ (ones_after-ones 0 k ∙ omega arith)
run-end b (suc q) k stands start end =
    let zero-bit : get_or b q false ≡ false = fresh-bit b (suc q) q start refl in
    let next : q + 1 ≡ suc q = omega arith in
    let rest : drop (suc q) b ≡ ones k =
    sym (take_all (length (ones k)) (drop (suc q) b) (omega (arith, length-replicate k true, length-drop (suc q) b)))
    ∙ stands in
    let from : drop q b ≡ false ∷ ones k = drop_more b q false (omega arith) ∙ rw (zero-bit, next, rest) refl in
    let parts : b ≡ take q b ++ false ∷ ones k = sym (take-append-drop q b) ∙ ap (λ xs. take q b ++ xs) from in
    ap (ones_after 0) parts ∙ ones_after-last 0 (take q b) k

pub run-stands : (b : List Bool) (k : ℕ) → ones_at_end b ≡ k → (a : ℕ) × (a + k ≡ length b) × StandsAt b a (ones k)
    × StartsRun b a
run-stands b k run = elim (runs 0 b) [
  | inl alone ↦
      let size : length b ≡ k = omega (arith, alone.1) in
      let is : b ≡ ones k = alone.0 ∙ ap ones size in
      (0, omega arith, subst (λ c. StandsAt c 0 (ones k)) (sym is) (stands-end [] (ones k)), tt)
  | inr last ↦
      let is : b ≡ last.0 ++ false ∷ ones k = last.1 ∙ ap (λ n. last.0 ++ false ∷ ones n) run in
      let parts : b ≡ (last.0 ++ false ∷ []) ++ ones k = is ∙ sym (append_assoc last.0 (false ∷ []) (ones k)) in
      let size : length (last.0 ++ false ∷ []) ≡ suc (length last.0) = omega (arith, length_push last.0 false) in (
        suc (length last.0),
        omega (arith, ap length parts, length-append (last.0 ++ false ∷ []) (ones k), length-replicate k true, size),
        subst (λ c. StandsAt c (suc (length last.0)) (ones k)) (sym parts)
            (subst (λ n. StandsAt ((last.0 ++ false ∷ []) ++ ones k) n (ones k)) size
            (stands-end (last.0 ++ false ∷ []) (ones k))),
        subst (λ c. StandsAt c (length last.0) (false ∷ [])) (sym is)
            (ap (take 1) (drop_at last.0 (false ∷ ones k) (length last.0) refl)),
      )
]

-- a flag that ends with a bit
pub flag-end : (b : List Bool) (bit : Bool) (p : ℕ) → IsFlag (b ++ bit ∷ []) p → p + 7 ≡ length b →
    (bit ≡ false) × (ones_at_end b ≡ 6) × (6 < length b)
flag-end b bit p is-flag end =
    let c = b ++ bit ∷ [] in
    let low : get_or c (p + 7) false ≡ false = stands-bit c p flag 7 (p + 7) is-flag (omega arith) refl in
    let last : get_or c (p + 7) false ≡ bit = get_or_push b bit false (p + 7) (sym end) in
    let run : StandsAt b (suc p) (ones 6) = sym (window-append 6 (suc p) b (bit ∷ []) (omega arith))
    ∙ stands-part c p flag 1 (suc p) 6 (omega arith) (omega arith) is-flag in
    let start : StandsAt b p (false ∷ []) = sym (window-append 1 p b (bit ∷ []) (omega arith))
    ∙ stands-part c p flag 0 p 1 (omega arith) (omega arith) is-flag in
    (sym last ∙ low, run-end b (suc p) 6 run start (omega arith), omega arith)

pub flag-made : (b : List Bool) → ones_at_end b ≡ 6 → 6 < length b → IsFlag (b ++ false ∷ []) (length b - 7)
flag-made b six long = elim (runs 0 b) [
  | inl alone ↦ absurd (omega (arith, alone.1))
  | inr last ↦
      let is : b ≡ last.0 ++ false ∷ ones 6 = last.1 ∙ ap (λ n. last.0 ++ false ∷ ones n) six in
      let whole : b ++ false ∷ [] ≡ last.0 ++ flag = ap (λ c. c ++ false ∷ []) is
      ∙ append_assoc last.0 (false ∷ ones 6) (false ∷ []) in
      let place : length last.0 ≡ length b - 7 = omega (arith, ap length is, length-append last.0 (false ∷ ones 6)) in
      subst (λ c. IsFlag c (length b - 7)) (sym whole) (subst (IsFlag (last.0 ++ flag)) place (stands-end last.0 flag))
]

-- marks fit in the list
pub flag-fits : (b : List Bool) (q : ℕ) → IsFlag b q → q + 8 ≤ length b
flag-fits b q is-flag = stands-within b q flag is-flag (omega arith)

pub abort-fits : (b : List Bool) (q : ℕ) → IsAbort b q → q + 7 ≤ length b
abort-fits b q is-abort = stands-within b q (ones 7) is-abort.0 (omega arith)

pub mark-fits : (b : List Bool) (q : ℕ) → IsMark b q → q + 7 ≤ length b
mark-fits b q (inl is-flag) = omega (arith, flag-fits b q is-flag)
mark-fits b q (inr is-abort) = abort-fits b q is-abort

pub not-flag : (b : List Bool) (p : ℕ) → (IsFlag b p → ⊥) → is_flag b p ≡ false
not-flag b p none = false_from_ne_true _ (λ is. none (flag-true b p is))

pub not-abort : (b : List Bool) (p : ℕ) → (IsAbort b p → ⊥) → is_abort b p ≡ false
not-abort b p none = false_from_ne_true _ (λ is. none (abort-true b p is))

-- the last mark, where there is none in between
pub last_mark-down : (b : List Bool) (k n : ℕ) → k ≤ n → ((q : ℕ) → k ≤ q → IsMark b q → q < n → ⊥) →
    last_mark b n ≡ last_mark b k
last_mark-down b k zero within none = let start : 0 ≡ k = omega arith in ap (last_mark b) start
last_mark-down b k (suc n) within none = elim (cases_lt n k) [
  | inl all ↦ let end : suc n ≡ k = omega arith in ap (last_mark b) end
  | inr more ↦
      let flag-free = not-flag b n (λ is. none n more (inl is) (omega arith)) in
      let abort-free = not-abort b n (λ is. none n more (inr is) (omega arith)) in
      rw (flag-free, abort-free) (last_mark-down b k n more (λ q from mark below. none q from mark (omega arith)))
]

-- where no flag ends with the bit, the last mark before the last seven places is the one before the bit
pub kept : (b : List Bool) (bit : Bool) → ((p : ℕ) → IsFlag (b ++ bit ∷ []) p → p + 7 ≡ length b → ⊥) →
    last_mark (b ++ bit ∷ []) (length b - 6) ≡ current b
kept b bit none = elim (cases_lt (length b) 7) [
  | inl few ↦
      let start : length b - 6 ≡ 0 = omega arith in
      ap (last_mark (b ++ bit ∷ [])) start
      ∙ sym (last_mark-down b 0 (length b) (omega arith) (λ q from mark below. omega (arith, mark-fits b q mark)))
  | inr many ↦
      let p = length b - 7 in
      let next : length b - 6 ≡ suc p = omega arith in
      let new = not-flag (b ++ bit ∷ []) p (λ is. none p is (omega arith)) in
      let old = not-flag b p (λ is. omega (arith, flag-fits b p is)) in
      let abort : is_abort (b ++ bit ∷ []) p ≡ is_abort b p = is_abort-append b (bit ∷ []) p (omega arith) in
      let before : last_mark (b ++ bit ∷ []) p ≡ last_mark b p = last_mark-append b (bit ∷ []) p (omega arith) in
      let same : last_mark (b ++ bit ∷ []) (suc p) ≡ last_mark b (suc p) = rw (new, old, abort, before) refl in
      ap (last_mark (b ++ bit ∷ [])) next ∙ (same ∙ sym (last_mark-down b (suc p) (length b) (omega arith)
      (λ q from mark below. omega (arith, mark-fits b q mark))))
]

-- one place has no flag and abort mark
pub flag-not_abort : (b : List Bool) (p : ℕ) → IsFlag b p → IsAbort b p → ⊥
flag-not_abort b p is-flag is-abort =
    both_ways _ (stands-bit b p flag 0 p is-flag (omega arith) (omega arith))
    (stands-bit b p (ones 7) 0 p is-abort.0 (omega arith) (omega arith))

ones-pushed : (b : List Bool) (bit : Bool) (k : ℕ) → ones_at_end (b ++ bit ∷ []) ≡ suc k →
    (bit ≡ true) × (ones_at_end b ≡ k)
ones-pushed b true k run = let more = ones_after-more 0 b true in (refl, omega (arith, more, run))
ones-pushed b false k run = let more = ones_after-more 0 b false in absurd (omega (arith, more, run))

-- a bit that ends no flag and no abort mark leaves the last mark
pub keeps : (b : List Bool) (bit : Bool) → ((p : ℕ) → IsFlag (b ++ bit ∷ []) p → p + 7 ≡ length b → ⊥) →
    ones_at_end (b ++ bit ∷ []) ≢ 7 → current (b ++ bit ∷ []) ≡ current b
keeps b bit none not-seven =
    let c = b ++ bit ∷ [] in
    let size : length (b ++ bit ∷ []) ≡ length b + 1 = length_push b bit in
    last_mark-down c (length b - 6) (length c) (omega (arith, size)) (λ q from mark below. elim mark [
      | inl is-flag ↦ omega (arith, size, flag-fits c q is-flag)
      | inr is-abort ↦
          not-seven (run-end c q 7 is-abort.0 is-abort.1 (omega (arith, size, abort-fits c q is-abort)))
    ])
    ∙ kept b bit none

pub at-flag : (longest : ℕ) (b : List Bool) → ones_at_end b ≡ 6 → 6 < length b →
    Decides longest b false
    (piece_report (λ p. class_of longest (slice_range (b ++ false ∷ []) (p + 8) (length b - 7))) (current b)
    (length b - 7)) (FlagAt (length b - 7))
at-flag longest b six long =
    let c = b ++ false ∷ [] in
    let p = length b - 7 in
    let size : length (b ++ false ∷ []) ≡ length b + 1 = length_push b false in
    let made = flag-made b six long in
    let end : length b ≡ p + 7 = omega arith in
    let before : last_mark (b ++ false ∷ []) p ≡ current b =
    last_mark-append b (false ∷ []) p (omega arith)
    ∙ sym (last_mark-down b p (length b) (omega arith) (λ q from mark below. elim mark [
      | inl is-flag ↦ omega (arith, flag-fits b q is-flag)
      | inr is-abort ↦
          let same : q ≡ p = omega (arith, abort-fits b q is-abort) in
          let old = abort-is b p (rw same at is-abort) in
          flag-not_abort c p made (abort-true c p (is_abort-append b (false ∷ []) p (omega arith) ∙ old))
    ])) in
    let is = flag-is c p made in
    record {
      answers = ap (due_at longest c) end ∙ (due_at-flag longest c p made ∙ rw before refl);
      leaves =
          last_mark-down c (suc p) (length c) (omega (arith, size)) (λ q from mark below. elim mark [
            | inl is-flag ↦ omega (arith, size, flag-fits c q is-flag)
            | inr is-abort ↦
                let next : q ≡ suc p = omega (arith, size, abort-fits c q is-abort) in
                flag-abort c p (suc p) made (rw next at is-abort) (omega arith)
          ])
          ∙ rw is refl;
    }

-- a run of ones that one more ends
run-made : (b : List Bool) (k : ℕ) → ones_at_end b ≡ k → StandsAt (b ++ true ∷ []) (length b - k) (ones (suc k))
    × StartsRun (b ++ true ∷ []) (length b - k) × (length b ≡ length b - k + k)
run-made b k run =
    let found = run-stands (b ++ true ∷ []) (suc k) (ones_after-more 0 b true ∙ ap suc run) in
    let size = length_push b true in
    let place : found.0 ≡ length b - k = omega (arith, found.1, size) in
    (rw (← place) found.2, rw (← place) found.3, omega (arith, found.1, size))

pub at-abort : (longest : ℕ) (b : List Bool) → ones_at_end b ≡ 6 →
    Decides longest b true (piece_report (λ p. Abort) (current b) (length b - 6)) (AbortAt (length b - 6))
at-abort longest b six =
    let c = b ++ true ∷ [] in
    let k = length b - 6 in
    let size : length (b ++ true ∷ []) ≡ length b + 1 = length_push b true in
    let made = run-made b 6 six in
    let abort : IsAbort (b ++ true ∷ []) k = (made.0, made.1) in
    let before = kept b true (λ p is-flag end. true≢false (flag-end b true p is-flag end).0) in
    let none = not-flag c k (λ is. omega (arith, size, flag-fits c k is)) in
    let is = abort-is c k abort in
    record {
      answers = ap (due_at longest c) made.2 ∙ (due_at-abort longest c k abort ∙ rw before refl);
      leaves = last_mark-down c (suc k) (length c) (omega (arith, size))
          (λ q from mark below. omega (arith, size, mark-fits c q mark)) ∙ rw (none, is) refl;
    }

pub at-idle : (longest : ℕ) (b : List Bool) → ones_at_end b ≡ 14 →
    Decides longest b true (Some (record { kind = Idle; first = length b - 14; past = length b + 1 })) (current b)
at-idle longest b fourteen =
    let c = b ++ true ∷ [] in
    let k = length b - 14 in
    let made = run-made b 14 fourteen in
    let past : k + 15 ≡ length b + 1 = omega (arith, made.2) in
    record {
      answers = ap (due_at longest c) made.2 ∙ (due_at-idle longest c k (made.0, made.1) ∙ rw past refl);
      leaves = keeps b true (λ p is-flag end. true≢false (flag-end b true p is-flag end).0)
          (λ seven. omega (arith, ones_after-more 0 b true, fourteen, seven));
    }

pub at-other : (longest : ℕ) (b : List Bool) (bit : Bool) → (bit ≡ false → ones_at_end b ≡ 6 → 6 < length b → ⊥) →
    (bit ≡ true → (ones_at_end b ≢ 6) × (ones_at_end b ≢ 14)) → Decides longest b bit None (current b)
at-other longest b bit not-flagged neither =
    let c = b ++ bit ∷ [] in
    let size : length (b ++ bit ∷ []) ≡ length b + 1 = length_push b bit in
    let none : (p : ℕ) → IsFlag (b ++ bit ∷ []) p → p + 7 ≡ length b → ⊥ =
    λ p is end. let ended = flag-end b bit p is end in not-flagged ended.0 ended.1 ended.2 in
    let not-seven : ones_at_end (b ++ bit ∷ []) ≢ 7 =
    λ seven. let last = ones-pushed b bit 6 seven in (neither last.0).0 last.1 in
    let not-fifteen : ones_at_end (b ++ bit ∷ []) ≢ 15 =
    λ fifteen. let last = ones-pushed b bit 14 fifteen in (neither last.0).1 last.1 in
    record {
      answers =
          cond-false _ _ _ (no-flag c (length b) none)
          ∙ (cond-false _ _ _
          (no-abort c (length b) (λ p is end. not-seven (run-end c p 7 is.0 is.1 (omega (arith, size, end)))))
          ∙ cond-false _ _ _
          (no-idle c (length b) (λ p is end. not-fifteen (run-end c p 15 is.0 is.1 (omega (arith, size, end))))));
      leaves = keeps b bit none not-seven;
    }
