-- The raw bits after a flag.
use Rattle.std.proofs.Common.{◌≡◌, ℕ, suc, ◌+◌, ◌-◌, ◌≤◌, ◌<◌, ◌==◌, Bool, true, false, not, ◌&&◌, List, [], ◌∷◌, ◌++◌}
use Rattle.std.proofs.Common.{length, take, drop, get_or, refl, sym, ap, ◌∙◌, subst, inl, inr, arith, nat_le}
use Rattle.std.specs.List.{slice_range}
use Rattle.std.proofs.lemmas.List.{append_assoc, length-append, length_push, length-take, length-drop, take_all}
use Rattle.std.proofs.lemmas.List.{drop_more, take_more, get_or-drop, get_or-replicate, take-append-drop}
use Rattle.std.proofs.lemmas.Bool.{cases_lt, false_from_ne_true, cases_Bool, le-leb, lt-leb, lt-ltb, both_ways}
use Rattle.std.proofs.lemmas.Bool.{and_left, and_right, and_from, and_parts, not-true, not_from_false, eq-eqb, eqb-true}
use Rattle.bus_line.specs.Spelling.{ones}
use Rattle.bus_line.specs.Run.{ones_after, ones_at_end}
use Rattle.bus_line.proofs.RunLemmas.{HasZeroSix, IsLow, low-from}
use Rattle.bus_line.specs.Mark.{flag, StandsAt, IsFlag, IsMark}
use Rattle.bus_line.specs.Due.{is_abort, FlagAt, AbortAt, last_mark, current}
use Rattle.bus_line.specs.Ledger.{is_settled, belongs, is_inserted}
use Rattle.bus_line.proofs.MarkLemmas.{stands-within, stands-bit, is_abort-append, last_mark-append, last_mark-flag}
use Rattle.bus_line.proofs.LedgerSettledLemmas.{inserted-true, inserted-is, is_inserted-append, is_settled-late}
use Rattle.bus_line.proofs.DueStreamLemmas.{ones_after-ones, run-stands, last_mark-down, mark-fits, flag-fits, not-flag}
use Rattle.bus_line.proofs.MarkLemmas.{stands-part, window-in}
use Rattle.std.proofs.Math.Seq.{drop-append_seam}

-- what stands in a part stands in the list
stands-out : (b : List Bool) (x m a : ℕ) (w : List Bool) → StandsAt (slice_range b x m) a w → 0 < length w →
    StandsAt b (x + a) w
stands-out b x m a w stands some =
    let within : a + length w ≤ m - x =
    omega (arith, stands-within (slice_range b x m) a w stands some, length-take (m - x) (drop x b)) in
    sym (window-in (m - x) x a (x + a) (length w) b within refl) ∙ stands

stands-extend : (b : List Bool) (z : ℕ) (w : List Bool) (x : Bool) → StandsAt b z w → z + length w < length b →
    get_or b (z + length w) false ≡ x → StandsAt b z (w ++ x ∷ [])
stands-extend b z w x stands inside is =
    ap (λ n. take n (drop z b)) (length_push w x)
    ∙ (take_more (drop z b) (length w) false (omega (arith, length-drop z b))
    ∙ (ap (λ xs. xs ++ get_or (drop z b) (length w) false ∷ []) stands
    ∙ ap (λ y. w ++ y ∷ []) (get_or-drop z b (length w) false ∙ is)))

pub range-length : (b : List Bool) (x m : ℕ) → length (slice_range b x m) ≤ m - x
range-length b x m = omega (arith, length-take (m - x) (drop x b))

range-first : (b : List Bool) (x m y : ℕ) (bit : Bool) → x < m → y ≡ x + 1 → m ≤ length b → get_or b x false ≡ bit →
    slice_range b x m ≡ bit ∷ slice_range b y m
range-first b x m y bit some at within is =
    let size : m - x ≡ suc (m - y) = omega arith in
    ap (λ i. take i (drop x b)) size ∙ (ap (take (suc (m - y))) (drop_more b x false (omega arith)) ∙ rw (is, at) refl)

short : {r : List Bool} → length r ≤ 6 → HasZeroSix r → ⊥
short {r} few six =
    omega (
      arith,
      ap length six.2,
      length-append (six.0 ++ (false ∷ ones 6)) six.1,
      length-append six.0 (false ∷ ones 6),
    )

-- after a flag there are no six ones in a row before the next mark
pub raw-low : (b : List Bool) (p m : ℕ) → IsFlag b p → ((q : ℕ) → p < q → IsMark b q → m ≤ q) → m + 7 ≤ length b →
    HasZeroSix (false ∷ slice_range b (p + 8) m) → ⊥
raw-low b p m is-flag next room found =
    elim (cases_lt (p + 7) m) [
      | inr some ↦ short (omega (arith, range-length b (p + 8) m)) found
      | inl some ↦
          let front : slice_range b (p + 7) m ≡ false ∷ slice_range b (p + 8) m =
          range-first b (p + 7) m (p + 8) false some (omega arith) (omega arith)
          (stands-bit b p flag 7 (p + 7) is-flag (omega arith) refl) in
          let z = (p + 7) + length found.0 in
          let parts : slice_range b (p + 7) m ≡ found.0 ++ ((false ∷ ones 6) ++ found.1) =
          front ∙ (found.2 ∙ append_assoc found.0 (false ∷ ones 6) found.1) in
          let run : StandsAt b z (false ∷ ones 6) =
          stands-out b (p + 7) m (length found.0) (false ∷ ones 6) (rw (parts, drop-append_seam) refl) (omega arith) in
          let inside : z + 7 ≤ m =
          omega (
            arith,
            ap length (front ∙ found.2),
            length-append (found.0 ++ (false ∷ ones 6)) found.1,
            length-append found.0 (false ∷ ones 6),
            range-length b (p + 7) m,
          ) in
          elim (cases_Bool (get_or b (z + 7) false)) [
            | inl one ↦
                let seven = stands-extend b z (false ∷ ones 6) true run (omega arith) one in
                let high : StandsAt b (suc z) (ones 7) =
                stands-part b z (false ∷ ones 7) 1 (suc z) 7 (omega arith) (omega arith) seven in
                let low : StandsAt b z (false ∷ []) =
                stands-part b z (false ∷ ones 7) 0 z 1 (omega arith) (omega arith) seven in
                omega (arith, next (suc z) (omega arith) (inr (high, low)))
            | inr zero-bit ↦
                let closing : IsFlag b z = stands-extend b z (false ∷ ones 6) false run (omega arith) zero-bit in
                omega (arith, next z (omega arith) (inl closing))
          ]
    ]

pub current-low : (b : List Bool) (p m : ℕ) → current b ≡ FlagAt p → m + 7 ≤ length b →
    IsLow 0 (slice_range b (p + 8) m)
current-low b p m mark room =
    let last = last_mark-flag b (length b) p mark in
    low-from _ (raw-low b p m last.flag (λ q past is-mark. omega (arith, last.greatest q past is-mark)) room)

-- an abort mark that just ended is the last mark
marks : (b : List Bool) (i : ℕ) → 8 ≤ length b →
    (belongs (last_mark b (suc (length b - 8))) (length b - 8)
    && (not (is_abort b (suc (length b - 8))) && not (is_inserted b (length b - 8))))
    ≡ (belongs (current b) (length b - 8) && not (is_inserted b (length b - 8)))
marks b i long =
    let j = length b - 8 in
    let down : current b ≡ last_mark b (suc (suc (length b - 8))) =
    last_mark-down b (suc (suc j)) (length b) (omega arith) (λ q past mark below. omega (arith, mark-fits b q mark)) in
    let none = not-flag b (suc j) (λ is. omega (arith, flag-fits b (suc j) is)) in
    elim (cases_Bool (is_abort b (suc (length b - 8)))) [
      | inl is-abort ↦
          let mark : current b ≡ AbortAt (suc (length b - 8)) = down ∙ rw (none, is-abort) refl in
          rw (is-abort, mark) (and_right _ _ refl)
      | inr not-abort ↦
          let mark : current b ≡ last_mark b (suc (length b - 8)) = down ∙ rw (none, not-abort) refl in
          rw (not-abort, mark) refl
    ]

-- the place eight before the new bit
pub settles-now : (b : List Bool) (bit : Bool) → is_settled (b ++ bit ∷ []) (length b - 8)
    ≡ (nat_le 8 (length b) && (belongs (current b) (length b - 8) && not (is_inserted b (length b - 8))))
settles-now b bit =
    let c = b ++ bit ∷ [] in
    let size : length (b ++ bit ∷ []) ≡ length b + 1 = length_push b bit in
    elim (cases_lt (length b) 8) [
      | inl early ↦ is_settled-late c (length b - 8) (omega (arith, size))
          ∙ sym (and_left (nat_le 8 (length b)) _ (lt-leb 8 (length b) early))
      | inr late ↦
          let i = length b - 8 in
          let in-range = lt-ltb (i + 8) (length c) (omega (arith, size)) in
          let in-list = le-leb 8 (length b) late in
          let mark = last_mark-append b (bit ∷ []) (suc i) (omega arith) in
          let abort = is_abort-append b (bit ∷ []) (suc i) (omega arith) in
          let inserted = is_inserted-append b (bit ∷ []) i (omega arith) in
          rw (in-range, in-list, mark, abort, inserted) (marks b i late)
    ]

pub low-ones : (k : ℕ) (r : List Bool) → IsLow k r → ones_after k r ≤ 5
low-ones k [] low = low
low-ones k (true ∷ r) low = low-ones (suc k) r low
low-ones k (false ∷ r) low = low-ones 0 r low.1

pub ones-after_ones : (j : ℕ) (u : List Bool) (k : ℕ) → k ≤ ones_after j (u ++ ones k)
ones-after_ones j [] k = omega (arith, ones_after-ones j k)
ones-after_ones j (true ∷ u) k = ones-after_ones (suc j) u k
ones-after_ones j (false ∷ u) k = ones-after_ones 0 u k

range-length-is : (b : List Bool) (x m : ℕ) → m ≤ length b → length (slice_range b x m) ≡ m - x
range-length-is b x m within = omega (arith, length-take (m - x) (drop x b), length-drop x b)

five-end : (b : List Bool) (x i : ℕ) → i < length b → x + 5 ≤ i → StandsAt b (i - 5) (ones 5) →
    5 ≤ ones_at_end (slice_range b x i)
five-end b x i inside long stands =
    let r = slice_range b x i in
    let size : length (slice_range b x i) ≡ i - x = range-length-is b x i (omega arith) in
    let a = (i - x) - 5 in
    let here : StandsAt (slice_range b x i) a (ones 5) =
    window-in (i - x) x a (i - 5) 5 b (omega arith) (omega arith) ∙ stands in
    let last : drop a r ≡ ones 5 = sym (take_all 5 (drop a r) (omega (arith, length-drop a r, size))) ∙ here in
    let parts : r ≡ take a r ++ ones 5 = sym (take-append-drop a r) ∙ ap (λ xs. take a r ++ xs) last in
    subst (λ z. 5 ≤ ones_after 0 z) (sym parts) (ones-after_ones 0 (take a r) 5)

pub inserted-raw : (b : List Bool) (p i : ℕ) → current b ≡ FlagAt p → p + 8 ≤ i → i + 7 ≤ length b → is_inserted b i
    ≡ (not (get_or b i false) && (ones_at_end (slice_range b (p + 8) i) == 5))
inserted-raw b p i mark past room =
    let is-flag = (last_mark-flag b (length b) p mark).flag in
    let r = slice_range b (p + 8) i in
    let size : length (slice_range b (p + 8) i) ≡ i - (p + 8) = range-length-is b (p + 8) i (omega arith) in
    let top = low-ones 0 r (current-low b p i mark room) in
    elim (cases_Bool (is_inserted b i)) [
      | inl is ↦
          let found = inserted-true b i is in
          let place : found.0 ≡ i - 5 = omega (arith, found.1) in
          let six : StandsAt b (i - 5) (ones 5 ++ false ∷ []) = rw place at found.2 in
          let last : get_or b i false ≡ false =
          stands-bit b (i - 5) (ones 5 ++ false ∷ []) 5 i six (omega arith) (omega (arith, found.1)) in
          let five : StandsAt b (i - 5) (ones 5) =
          stands-part b (i - 5) (ones 5 ++ false ∷ []) 0 (i - 5) 5 (omega arith) (omega arith) six in
          let far : (p + 8) + 5 ≤ i = elim (cases_lt i ((p + 8) + 5)) [
            | inr far ↦ far
            | inl near ↦
                let k = (p + 7) - (i - 5) in
                absurd (both_ways _ (stands-bit b p flag 7 (p + 7) is-flag (omega arith) refl)
                (stands-bit b (i - 5) (ones 5) k (p + 7) five (omega arith) (omega arith)
                ∙ get_or-replicate 5 k true false (omega arith)))
          ] in
          let run : ones_at_end r ≡ 5 = omega (arith, top, five-end b (p + 8) i (omega arith) far five) in
          is ∙ sym (and_from _ _ (not_from_false _ last) (eq-eqb _ 5 run))
      | inr not-inserted ↦
          not-inserted ∙ sym (false_from_ne_true _ (λ is.
          let parts = and_parts (not (get_or b i false)) (ones_at_end (slice_range b (p + 8) i) == 5) is in
          let run = run-stands r 5 (eqb-true _ 5 parts.1) in
          let five = stands-out b (p + 8) i run.0 (ones 5) run.2 (omega arith) in
          let end : (p + 8) + run.0 + 5 ≡ i = omega (arith, run.1, size) in
          let last : get_or b ((p + 8) + run.0 + 5) false ≡ false = rw end (not-true _ parts.0) in
          let six : StandsAt b ((p + 8) + run.0) (ones 5 ++ false ∷ []) =
          stands-extend b ((p + 8) + run.0) (ones 5) false five (omega arith) last in
          both_ways (is_inserted b i) not-inserted (inserted-is b i ((p + 8) + run.0, end, six))))
    ]
