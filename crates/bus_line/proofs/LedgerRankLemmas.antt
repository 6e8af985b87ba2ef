-- How many data bits are settled.
use Rattle.std.proofs.Common.{◌≡◌, ℕ, zero, suc, ◌+◌, ◌-◌, ◌*◌, ◌%◌, ◌≤◌, ◌<◌, ◌==◌, Bool, true, false, not, ◌&&◌}
use Rattle.std.proofs.Common.{if◌then◌else◌, List, [], ◌∷◌, ◌++◌, length, get_or, refl, sym, ap, ◌∙◌, ◌⊎◌}
use Rattle.std.proofs.Common.{inl, inr, arith, nat_le, nat_lt, ◌/◌, min, Some, None}
use Rattle.std.specs.List.{slice_range, count_by}
use Rattle.std.proofs.lemmas.List.{length_push}
use Rattle.std.proofs.lemmas.Bool.{cases_lt, cases_Bool, leb-true, le-leb, lt-leb, lt-ltb, and_left, and_right}
use Rattle.std.proofs.lemmas.Bool.{and_from, and_parts, eqb-true}
use Rattle.std.proofs.Math.Bool.{and_assoc}
use Rattle.bus_line.specs.Run.{ones_at_end, data_so_far}
use Rattle.bus_line.proofs.RunLemmas.{data_after-more}
use Rattle.bus_line.specs.Due.{Mark, NoMark, FlagAt, AbortAt, last_mark, places, current, begun_by, first_of}
use Rattle.bus_line.specs.Ledger.{is_settled, belongs, is_inserted, rank_under, is_stored, stored, assembled}
use Rattle.bus_line.specs.Ledger.{stored_from, stored_behind, stored_open}
use Rattle.bus_line.proofs.MarkLemmas.{last_mark-append, last_mark-flag, last_mark-is}
use Rattle.bus_line.proofs.DueStreamLemmas.{not-abort, flag-fits}
use Rattle.bus_line.proofs.LedgerSettledLemmas.{of_flag, one_if, and-same, count-up, count-more, count-same}
use Rattle.bus_line.proofs.LedgerSettledLemmas.{is_settled-append, is_settled-late}
use Rattle.bus_line.proofs.SpellingRawLemmas.{inserted-raw}
use Rattle.bus_line.proofs.DueMoreLemmas.{range-step, range-none}
use Rattle.std.specs.Prelude.{nat_le, nat_lt, if◌then◌else◌}
use Rattle.std.proofs.lemmas.Bool.Decides.{nat_tests}
use Rattle.bus_fcs.specs.Check.{CheckView}
use Rattle.bus_line.specs.LineState.{LineState, stored_of}
use Rattle.bus_line.specs.Internal.Tracks.{settled_data, HoldsFor}
use Rattle.bus_line.specs.After.{After}

-- a flag that is the last mark is so before each place after it
pub flag-stays : (b : List Bool) (p m n : ℕ) → last_mark b n ≡ FlagAt p → p < m → m ≤ n → last_mark b m ≡ FlagAt p
flag-stays b p m n mark past within =
    let last = last_mark-flag b n p mark in
    last_mark-is b m p
    (record { flag = last.flag; below = past; greatest = λ q above is. omega (arith, last.greatest q above is) })

-- within the last flag's places a place is settled unless its bit was inserted
flag-settled : (b : List Bool) (p i : ℕ) → current b ≡ FlagAt p → p + 8 ≤ i → i + 8 < length b →
    is_settled b i ≡ not (is_inserted b i)
flag-settled b p i mark after room =
    let last = last_mark-flag b (length b) p mark in
    let same = flag-stays b p (suc i) (length b) mark (omega arith) (omega arith) in
    let no-abort = not-abort b (suc i) (λ is. omega (arith, last.greatest (suc i) (omega arith) (inr is))) in
    let in-list = lt-ltb (i + 8) (length b) room in
    let belonging = le-leb (p + 8) i after in
    rw (in-list, same, no-abort, belonging) refl

grown : (t x : Bool) (d : List Bool) → length (if t then d else d ++ x ∷ []) ≡ length d + one_if (not t)
grown true x d = omega arith
grown false x d = length_push d x

pub rank-data : (b : List Bool) (p m : ℕ) → current b ≡ FlagAt p → m + 8 ≤ length b →
    count_by (of_flag b p) (places m) ≡ length (data_so_far (slice_range b (p + 8) m))
rank-data b p zero mark room = sym (ap (λ r. length (data_so_far r)) (range-none b (p + 8) 0 (omega arith)))
rank-data b p (suc m) mark room =
    let f = of_flag b p in
    let before = rank-data b p m mark (omega arith) in
    elim (cases_lt m (p + 8)) [
      | inl early ↦
          let none : one_if (nat_le (p + 8) m && is_settled b m) ≡ 0 =
          ap one_if (and_left _ _ (lt-leb (p + 8) m early)) in
          let short = ap (λ r. length (data_so_far r)) (range-none b (p + 8) m (omega arith)) in
          let still = ap (λ r. length (data_so_far r)) (range-none b (p + 8) (suc m) (omega arith)) in
          omega (arith, count-more f m, before, none, short, still)
      | inr after ↦
          let r = slice_range b (p + 8) m in
          let belonging = le-leb (p + 8) m after in
          let settled = flag-settled b p m mark after (omega arith) in
          let inserted = inserted-raw b p m mark after (omega arith) in
          let counted : one_if (nat_le (p + 8) m && is_settled b m)
          ≡ one_if (not (not (get_or b m false) && (ones_at_end (slice_range b (p + 8) m) == 5))) =
          rw (belonging, settled, inserted) refl in
          let grows : length (data_so_far (slice_range b (p + 8) (suc m)))
          ≡ length (data_so_far (slice_range b (p + 8) m))
          + one_if (not (not (get_or b m false) && (ones_at_end (slice_range b (p + 8) m) == 5))) =
          ap (λ r. length (data_so_far r)) (range-step b (p + 8) m after (omega arith))
          ∙ (ap length (data_after-more 0 r (get_or b m false))
          ∙ grown (not (get_or b m false) && (ones_at_end r == 5)) (get_or b m false) (data_so_far r)) in
          count-more f m ∙ (rw (before, counted) (sym grows))
    ]

pub stores-now : (longest : ℕ) (b : List Bool) (bit : Bool) (p : ℕ) → current b ≡ FlagAt p → p + 16 ≤ length b →
    is_stored longest (b ++ bit ∷ []) (length b - 8)
    ≡ (is_settled (b ++ bit ∷ []) (length b - 8)
    && (((length (data_so_far (slice_range b (p + 8) (length b - 8))) + 1) % 8 == 0)
    && nat_le (length (data_so_far (slice_range b (p + 8) (length b - 8))) + 1) (8 * (longest + 2))))
stores-now longest b bit p mark late =
    let c = b ++ bit ∷ [] in
    let i = length b - 8 in
    let size : length (b ++ bit ∷ []) ≡ length b + 1 = length_push b bit in
    let same : last_mark (b ++ bit ∷ []) (suc i) ≡ FlagAt p =
    last_mark-append b (bit ∷ []) (suc i) (omega arith)
    ∙ flag-stays b p (suc i) (length b) mark (omega arith) (omega arith) in
    and-same (is_settled c i) _ _ (λ settled.
    let f = of_flag c p in
    let g = of_flag b p in
    let one : one_if (nat_le (p + 8) i && is_settled c i) ≡ 1 =
    ap one_if (and_from _ _ (le-leb (p + 8) i (omega arith)) settled) in
    let others : count_by f (places i) ≡ count_by g (places i) =
    count-same f g i
    (λ j is. ap (λ x. nat_le (p + 8) j && x) (is_settled-append b (bit ∷ []) j (omega arith) (omega (arith, size)))) in
    let rank = rank-data b p i mark (omega arith) in
    let count : rank_under c (last_mark c (suc i)) i ≡ length (data_so_far (slice_range b (p + 8) i)) + 1 =
    ap (λ x. rank_under c x i) same ∙ omega (arith, count-more f i, others, rank, one) in
    ap (λ k. (k % 8 == 0) && nat_le k (8 * (longest + 2))) count)

-- the settled places of the flag below a place
abbrev open_rank : List Bool → Mark → ℕ → ℕ
open_rank b NoMark m = 0
open_rank b (AbortAt a) m = 0
open_rank b (FlagAt p) m = count_by (of_flag b p) (places m)

-- a place that is not settled
rank-still : (b : List Bool) (m : ℕ) (mark : Mark) → last_mark b (suc m) ≡ mark → is_settled b m ≡ false →
    (open_rank b mark (suc m) ≡ 0) ⊎ (open_rank b mark (suc m) ≡ open_rank b (last_mark b m) m)
rank-still b m NoMark mark unsettled = inl refl
rank-still b m (AbortAt a) mark unsettled = inl refl
rank-still b m (FlagAt p) mark unsettled =
    let f = of_flag b p in
    elim (cases_lt p m) [
      | inl below ↦ inr (omega (arith, count-more f m, ap one_if (and_right (nat_le (p + 8) m) _ unsettled))
          ∙ sym (ap (λ x. open_rank b x m) (flag-stays b p m (suc m) mark below (omega arith))))
      | inr here ↦ inl (count-up f 0 (suc m) (omega arith)
          (λ j from below. and_left _ _ (lt-leb (p + 8) j (omega arith))))
    ]

rank-step : (b : List Bool) (m : ℕ) (mark : Mark) → last_mark b (suc m) ≡ mark → is_settled b m ≡ true →
    belongs mark m ≡ true → (open_rank b mark (suc m) ≡ open_rank b (last_mark b m) m + 1)
    × (rank_under b mark m ≡ open_rank b mark (suc m))
rank-step b m NoMark mark settled belonging = absurd (cc)
rank-step b m (AbortAt a) mark settled belonging = absurd (cc)
rank-step b m (FlagAt p) mark settled belonging =
    let f = of_flag b p in
    let after = leb-true (p + 8) m belonging in
    let before = ap (λ x. open_rank b x m) (flag-stays b p m (suc m) mark (omega (arith, after)) (omega arith)) in
    (omega (arith, count-more f m, ap one_if (and_from _ _ belonging settled), before), refl)

paid : (longest : ℕ) (b : List Bool) (m : ℕ) →
    8 * count_by (is_stored longest b) (places m) + open_rank b (last_mark b m) m % 8
    ≤ count_by (is_settled b) (places m)
paid longest b zero = omega arith
paid longest b (suc m) =
    let before = paid longest b m in
    let stored-more = count-more (is_stored longest b) m in
    let settled-more = count-more (is_settled b) m in
    elim (cases_Bool (is_settled b m)) [
      | inl settled ↦
          let in-list = and_parts (nat_lt (m + 8) (length b)) _ settled in
          let belonging = and_parts (belongs (last_mark b (suc m)) m) _ in-list.1 in
          let rank = rank-step b m (last_mark b (suc m)) refl settled belonging.0 in
          elim (cases_Bool (is_stored longest b m)) [
            | inl stored ↦
                let both = and_parts (is_settled b m) _ stored in
                let whole = and_parts (rank_under b (last_mark b (suc m)) m % 8 == 0) _ both.1 in
                omega (arith, ap one_if settled, ap one_if stored, rank.0, rank.1, eqb-true _ 0 whole.0)
            | inr unstored ↦ omega (arith, ap one_if settled, ap one_if unstored, rank.0)
          ]
      | inr unsettled ↦
          let unstored : is_stored longest b m ≡ false = and_left _ _ unsettled in
          elim (rank-still b m (last_mark b (suc m)) refl unsettled) [
            | inl rank ↦ omega (arith, before, stored-more, settled-more, ap one_if unsettled, ap one_if unstored, rank)
            | inr rank ↦ omega (arith, before, stored-more, settled-more, ap one_if unsettled, ap one_if unstored, rank)
          ]
    ]

-- eight settled places for each octet that is stored
pub stored-paid : (longest : ℕ) (b : List Bool) → 8 * stored longest b ≤ assembled b
stored-paid longest b = omega (arith, paid longest b (length b))

-- ---- how many octets are stored for the open piece

-- the places after the flag that fill a stored octet
abbrev pub kept : ℕ → List Bool → ℕ → ℕ → Bool
kept longest b p j = nat_le (p + 8) j && is_stored longest b j

-- one more settled place stores an octet where it is the eighth of one that fits
pub octet-step : (n k : ℕ) → one_if (((n + 1) % 8 == 0) && nat_le (n + 1) (8 * k)) + min (n / 8) k ≡ min ((n + 1) / 8) k
octet-step n k = grind (arith, nat_tests)

stored-ranked : (longest : ℕ) (b : List Bool) (p m : ℕ) → current b ≡ FlagAt p → m ≤ length b →
    count_by (kept longest b p) (places m) ≡ min (longest + 2) (count_by (of_flag b p) (places m) / 8)
stored-ranked longest b p zero mark within = omega arith
stored-ranked longest b p (suc m) mark within =
    let before = stored-ranked longest b p m mark (omega arith) in
    let more-kept = count-more (kept longest b p) m in
    let more-ranked = count-more (of_flag b p) m in
    elim (cases_Bool (of_flag b p m)) [
      | inr not-ranked ↦
          let none : kept longest b p m ≡ false =
          sym (and_assoc (nat_le (p + 8) m) (is_settled b m) _) ∙ and_left _ _ not-ranked in
          omega (arith, before, more-kept, more-ranked, ap one_if not-ranked, ap one_if none)
      | inl is-ranked ↦
          let rank = count_by (of_flag b p) (places m) in
          let parts = and_parts (nat_le (p + 8) m) (is_settled b m) is-ranked in
          let begun = leb-true (p + 8) m parts.0 in
          let same = flag-stays b p (suc m) (length b) mark (omega (arith, begun)) within in
          let size : count_by (of_flag b p) (places (suc m)) ≡ rank + 1 =
          omega (arith, more-ranked, ap one_if is-ranked) in
          let now : kept longest b p m ≡ (((rank + 1) % 8 == 0) && nat_le (rank + 1) (8 * (longest + 2))) =
          rw (parts.0, parts.1) refl
          ∙ ap (λ k. (k % 8 == 0) && nat_le k (8 * (longest + 2))) (ap (λ k. rank_under b k m) same ∙ size) in
          omega (arith, more-kept, before, ap one_if now, size, octet-step rank (longest + 2))
    ]

-- the octets stored for the open piece are as many as its settled data have, up to the buffer's room
pub stored_from-is : (longest : ℕ) (b : List Bool) (p : ℕ) → current b ≡ FlagAt p →
    stored_from longest b (p + 8) ≡ min (longest + 2) (length (data_so_far (slice_range b (p + 8) (length b - 8))) / 8)
stored_from-is longest b p mark =
    let fits = flag-fits b p (last_mark-flag b (length b) p mark).flag in
    count-up (kept longest b p) (length b - 8) (length b) (omega arith) (λ i from below. settled-kept i (omega arith))
    ∙ (stored-ranked longest b p (length b - 8) mark (omega arith)
    ∙ ap (λ k. min (longest + 2) (k / 8)) (rank-data b p (length b - 8) mark (omega arith)))
  where
    settled-kept : (i : ℕ) → length b ≤ i + 8 → kept longest b p i ≡ false
    settled-kept i late = and_right (nat_le (p + 8) i) _ (and_left _ _ (is_settled-late b i late))

-- and none where nothing stands after the flag
pub none-behind : (longest : ℕ) (b : List Bool) (p : ℕ) → length b ≤ p + 8 → stored_from longest b (p + 8) ≡ 0
none-behind longest b p short =
    count-up (kept longest b p) 0 (length b) (omega arith)
    (λ i from below. and_left _ _ (lt-leb (p + 8) i (omega (arith, short, below))))

-- ---- what is buffered of the open piece

-- after a flag that is the last mark as many are stored as the settled data have, up to the room
stored-behind-flag : (longest : ℕ) (b : List Bool) (p : ℕ) → current b ≡ FlagAt p →
    stored_open longest b ≡ min (longest + 2) (length (settled_data b p) / 8)
stored-behind-flag longest b p e = ap (λ m. stored_behind longest b (begun_by m (length b))) e
    ∙ (open_if (nat_lt (p + 8) (length b)) refl ∙ stored_from-is longest b p e)
  where
    open_if : (t : Bool) → nat_lt (p + 8) (length b) ≡ t → stored_behind longest b (if t then Some (p + 8) else None)
        ≡ stored_from longest b (p + 8)
    open_if true h = refl
    open_if false h = sym (none-behind longest b p (grind (arith, nat_tests)))

-- by the count of its data bits
pub open-stored : {C : Type 0} (view : CheckView C) (d : LineState C) (b : List Bool) (first : ℕ) →
    After view d b → d.first ≡ Some first → stored_of d.longest d.data_bits ≡ stored_open d.longest b
unfolding stored_of
open-stored view d b first h f = by_mark (current b) refl h.piece (sym h.first ∙ f)
  where
    by_mark : (m : Mark) → current b ≡ m → HoldsFor view.folded d b m → first_of d.origin m ≡ Some first →
        stored_of d.longest d.data_bits ≡ stored_open d.longest b
    by_mark NoMark e k g = absurd (cc)
    by_mark (AbortAt a) e k g = absurd (cc)
    by_mark (FlagAt p) e k g = omega (arith, stored-behind-flag d.longest b p e, k.count)
