-- The octets of all frames were stored.
use Rattle.std.proofs.Common.{◌≡◌, ℕ, zero, suc, ◌+◌, ◌-◌, ◌*◌, ◌/◌, ◌%◌, ◌≤◌, ◌<◌, ◌==◌, Bool, true, false, not, ◌&&◌}
use Rattle.std.proofs.Common.{List, [], ◌∷◌, ◌++◌, length, take, get_or, Option, Some, None, refl, sym, ap, ◌∙◌, subst}
use Rattle.std.proofs.Common.{arith, inl, inr, ◌⊎◌, if◌then◌else◌}
use Rattle.std.specs.List.{slice_range, count_by, sum_by}
use Rattle.std.specs.Option.{option_to_list}
use Rattle.std.specs.Prelude.{nat_le, nat_lt}
use Rattle.std.proofs.Math.Seq.{take-suc}
use Rattle.std.proofs.lemmas.List.{length_push, take_all}
use Rattle.std.proofs.lemmas.Bool.{cases_lt, cases_eq, cases_Bool, le-leb, and_from, and_left, and_right, eq-eqb}
use Rattle.std.proofs.lemmas.Bool.{eqb-true, ltb-true}
use Rattle.std.proofs.lemmas.List.Sums.{sum_by-append}
use Rattle.bus_bits.specs.Octet.{octets}
use Rattle.bus_line.specs.Spelling.{unspelled}
use Rattle.bus_line.specs.Run.{ones_at_end, data_so_far}
use Rattle.bus_line.specs.Report.{Report, Frame, Damaged, Overlong, Abort, class_of_data}
use Rattle.bus_line.specs.Due.{Mark, NoMark, FlagAt, AbortAt, current, class_of, class_of_read, piece_report, due_at}
use Rattle.bus_line.specs.Due.{reports, places}
use Rattle.bus_line.specs.Ledger.{is_inserted, is_stored, stored, stored_from, kind_octets, octet_count, copied}
use Rattle.bus_line.specs.Internal.EndedMark.{HasEnded}
use Rattle.bus_line.specs.Internal.AdvancesTo.{closed_piece}
use Rattle.bus_line.specs.declared.decoder.ended_mark.EndedMark.{EndedMark}
use Rattle.bus_line.specs.declared.decoder.ended_mark.EndedMark.TheVariants.{FlagMark, AbortMark, IdleMark, Other}
use Rattle.bus_line.specs.Internal.Tracks.{settled_data}
use Rattle.bus_line.proofs.DueMoreLemmas.{reports-more, range-append}
use Rattle.bus_line.proofs.LedgerSettledLemmas.{one_if, one-place, stored-more, is_stored-append, is_settled-late}
use Rattle.bus_line.proofs.LedgerRankLemmas.{kept, stored_from-is, none-behind, stores-now}
use Rattle.bus_fcs.specs.FrameCheck.{is_good}
use Rattle.bus_line.specs.declared.cause.Cause.TheVariants.{Short, Unaligned, Fcs}
use Rattle.bus_line.proofs.RunLemmas.{IsLow, low-unspelled}
use Rattle.bus_line.proofs.SpellingRawLemmas.{current-low}
use Rattle.bus_line.proofs.WholeLemmas.{length-octets}
use Rattle.bus_line.proofs.StepLemmas.{data-inserted, data-more, data-settled, closing, seven, fifteen, other}
use Rattle.std.proofs.lemmas.Bool.Decides.{nat_tests}

-- the octets stored for the piece after this mark
abbrev open_stored : ℕ → List Bool → Mark → ℕ
open_stored longest b NoMark = 0
open_stored longest b (AbortAt a) = 0
open_stored longest b (FlagAt p) = stored_from longest b (p + 8)

-- the octets of the frames so far, and those stored for the open piece, are among the stored ones
abbrev IsPaid : ℕ → List Bool → Type 0
IsPaid longest b = copied longest b + open_stored longest b (current b) ≤ stored longest b

-- what the newest bit ends
find : (bit : Bool) (run count : ℕ) → (f : EndedMark) × HasEnded bit run count f
find true run count =
    elim (cases_eq run 6) [
      | inl six ↦ (AbortMark, (refl, six))
      | inr not-six ↦ elim (cases_eq run 14)
          [ inl more ↦ (IdleMark, (refl, more)) | inr less ↦ (Other, ((λ is. absurd (cc)), λ is. (not-six, less))) ]
    ]
find false run count =
    elim (cases_eq run 6) [
      | inl six ↦ elim (cases_lt 6 count)
          [ inl far ↦ (FlagMark, (refl, six, far)) | inr few ↦ (Other, ((λ _ _ far. omega arith), λ is. absurd (cc))) ]
      | inr not-six ↦ (Other, ((λ is run long. not-six run), λ is. absurd (cc)))
    ]

-- one bit more for the octets of the frames
copied-more : (longest : ℕ) (b : List Bool) (bit : Bool) (due : Option Report) →
    due_at longest (b ++ bit ∷ []) (length b) ≡ due → copied longest (b ++ bit ∷ [])
    ≡ copied longest b + sum_by octet_count (option_to_list due)
copied-more longest b bit due is =
    ap (sum_by octet_count) (reports-more longest b bit ∙ ap (λ o. reports longest b ++ option_to_list o) is)
    ∙ sum_by-append octet_count (reports longest b) (option_to_list due)

-- and for those stored of a flag's piece
kept-more : (longest : ℕ) (b : List Bool) (bit : Bool) (p : ℕ) →
    stored_from longest (b ++ bit ∷ []) (p + 8) ≡ stored_from longest b (p + 8)
    + one_if (nat_le (p + 8) (length b - 8) && is_stored longest (b ++ bit ∷ []) (length b - 8))
kept-more longest b bit p =
    let c = b ++ bit ∷ [] in
    let size : length c ≡ suc (length b) = omega (arith, length_push b bit) in
    ap (λ k. count_by (kept longest c p) (places k)) size
    ∙ one-place (kept longest c p) (kept longest b p) (length b)
    (λ i below. ap (λ t. nat_le (p + 8) i && t) (is_stored-append longest b (bit ∷ []) i below (omega (arith, size))))
    (λ i below. and_right (nat_le (p + 8) i) _ (and_left _ _ (is_settled-late c i (omega (arith, size, below)))))
    (λ i below. and_right (nat_le (p + 8) i) _ (and_left _ _ (is_settled-late b i below)))

one-below : (x y : Bool) → one_if (x && y) ≤ one_if y
one-below true y = omega arith
one-below false y = omega arith

open-more : (longest : ℕ) (b : List Bool) (bit : Bool) (mark : Mark) →
    open_stored longest (b ++ bit ∷ []) mark ≤ open_stored longest b mark
    + one_if (is_stored longest (b ++ bit ∷ []) (length b - 8))
open-more longest b bit NoMark = omega arith
open-more longest b bit (AbortAt a) = omega arith
open-more longest b bit (FlagAt p) =
    omega (
      arith,
      kept-more longest b bit p,
      one-below (nat_le (p + 8) (length b - 8)) (is_stored longest (b ++ bit ∷ []) (length b - 8)),
    )

-- a bit that changes no mark and closes no frame
paid-kept : (longest : ℕ) (b : List Bool) (bit : Bool) → IsPaid longest b → current (b ++ bit ∷ []) ≡ current b →
    copied longest (b ++ bit ∷ []) ≡ copied longest b → IsPaid longest (b ++ bit ∷ [])
paid-kept longest b bit paid mark copies =
    let c = b ++ bit ∷ [] in
    let opened = ap (open_stored longest c) mark in
    omega (arith, paid, copies, opened, open-more longest b bit (current b), stored-more longest b bit)

no-octets : (mark : Mark) (m : ℕ) → sum_by octet_count (option_to_list (piece_report (λ p. Abort) mark m)) ≡ 0
no-octets NoMark m = refl
no-octets (AbortAt a) m = refl
no-octets (FlagAt p) m = elim (cases_Bool (nat_lt (p + 8) m)) [ inl some ↦ rw some refl | inr none ↦ rw none refl ]

-- an abort hands on no octets, and opens no piece
paid-abort : (longest : ℕ) (b : List Bool) (bit : Bool) (a : ℕ) → IsPaid longest b →
    current (b ++ bit ∷ []) ≡ AbortAt a → copied longest (b ++ bit ∷ []) ≡ copied longest b →
    IsPaid longest (b ++ bit ∷ [])
paid-abort longest b bit a paid mark copies =
    let opened = ap (open_stored longest (b ++ bit ∷ [])) mark in
    omega (arith, paid, copies, opened, stored-more longest b bit)

-- the octets of data that are a frame
data-octets : (over short whole good : Bool) (fs : List ℕ) → let kind =
    if over then Overlong else
    (if short then Damaged Short else
    (if not whole then Damaged Unaligned else (if not good then Damaged Fcs else Frame fs))) in
    (kind_octets kind ≡ 0) ⊎ ((over ≡ false) × (whole ≡ true) × (kind_octets kind ≡ length fs))
data-octets true short whole good fs = inl refl
data-octets false true whole good fs = inl refl
data-octets false false false good fs = inl refl
data-octets false false true false fs = inl refl
data-octets false false true true fs = inr (refl, refl, refl)

-- a closing flag hands on no more octets than were stored for its piece
closed-octets : (longest : ℕ) (b : List Bool) (bit : Bool) (p : ℕ) → current b ≡ FlagAt p → p + 15 < length b
    → kind_octets (class_of longest (slice_range (b ++ bit ∷ []) (p + 8) (length b - 7)))
    ≤ stored_from longest b (p + 8) + one_if (is_stored longest (b ++ bit ∷ []) (length b - 8))
closed-octets longest b bit p mark long =
    let c = b ++ bit ∷ [] in
    let m = length b - 7 in
    let raw = slice_range c (p + 8) m in
    let same : raw ≡ slice_range b (p + 8) m = range-append b (bit ∷ []) (p + 8) m (omega arith) in
    let low : IsLow 0 raw =
    subst (IsLow 0) (sym same) (current-low b p m mark (omega arith)) in
    let end : length c - 8 ≡ m = omega (arith, length_push b bit) in
    let bits : settled_data c p ≡ data_so_far raw = ap (λ k. data_so_far (slice_range c (p + 8) k)) end in
    elim (spelled-octets longest raw low) [
      | inl none ↦ omega (arith, none)
      | inr frame ↦
          let from = stored_from-is longest b p mark in
          elim (cases_Bool (is_inserted b (length b - 8))) [
            | inl is-inserted ↦
                let size = ap length (sym bits ∙ data-inserted b bit p mark (omega arith) is-inserted) in
                omega (arith, frame.2, frame.0, frame.1, from, size)
            | inr is-data ↦
                let size = ap length (sym bits ∙ data-more b bit p mark (omega arith) is-data) in
                let grown = length_push (settled_data b p) (get_or b (length b - 8) false) in
                let settled = data-settled b bit p mark (omega arith) is-data in
                let now : is_stored longest c (length b - 8) ≡ true =
                stores-now longest b bit p mark (omega arith)
                ∙ and_from _ _ settled
                (and_from _ _ (eq-eqb ((length (settled_data b p) + 1) % 8) 0 (omega (arith, frame.1, size, grown)))
                (le-leb (length (settled_data b p) + 1) (8 * (longest + 2)) (omega (arith, frame.0, size, grown)))) in
                omega (arith, frame.2, frame.0, frame.1, from, size, grown, ap one_if now)
          ]
    ]
  where
    spelled-octets : (longest : ℕ) (raw : List Bool) → IsLow 0 raw →
        (kind_octets (class_of longest raw) ≡ 0) ⊎
        ((length (data_so_far raw) ≤ 8 * (longest + 2)) × (length (data_so_far raw) % 8 ≡ 0)
        × (kind_octets (class_of longest raw) ≡ length (data_so_far raw) / 8))
    spelled-octets longest raw low =
        let d = data_so_far raw in
        elim (cases_Bool (ones_at_end raw == 5)) [
          | inl five ↦
              let is : unspelled raw ≡ None = low-unspelled raw low ∙ rw five refl in
              inl (ap (λ o. kind_octets (class_of_read longest o)) is)
          | inr five ↦
              let is : unspelled raw ≡ Some d = low-unspelled raw low ∙ rw five refl in
              let read : kind_octets (class_of longest raw) ≡ kind_octets (class_of_data longest d) =
              ap (λ o. kind_octets (class_of_read longest o)) is in
              elim (data-octets (nat_lt (8 * (longest + 2)) (length d)) (nat_lt (length d) 32) (length d % 8 == 0)
              (is_good d) (octets d)) [
                | inl none ↦ inl (read ∙ none)
                | inr full ↦
                    let most : length d ≤ 8 * (longest + 2) = let few = full.0 in grind (arith, nat_tests) in
                    inr (most, eqb-true (length d % 8) 0 full.1, read ∙ (full.2 ∙ length-octets (length d / 8) d refl))
              ]
        ]

piece-octets : (longest : ℕ) (b : List Bool) (bit : Bool) (mark : Mark) → current b ≡ mark
    → sum_by octet_count
    (option_to_list (piece_report (λ p. class_of longest (slice_range (b ++ bit ∷ []) (p + 8) (length b - 7))) mark
    (length b - 7))) ≤ open_stored longest b mark + one_if (is_stored longest (b ++ bit ∷ []) (length b - 8))
piece-octets longest b bit NoMark mark = omega arith
piece-octets longest b bit (AbortAt a) mark = omega arith
piece-octets longest b bit (FlagAt p) mark = elim (cases_Bool (nat_lt (p + 8) (length b - 7))) [
  | inl begun ↦
      let long : p + 15 < length b = omega (arith, ltb-true (p + 8) (length b - 7) begun) in
      rw begun (omega (arith, closed-octets longest b bit p mark long))
  | inr none ↦ rw none (omega arith)
]

paid-flag : (longest : ℕ) (b : List Bool) (bit : Bool) → IsPaid longest b → 6 < length b →
    current (b ++ bit ∷ []) ≡ FlagAt (length b - 7)
    → copied longest (b ++ bit ∷ []) ≡ copied longest b
    + sum_by octet_count (option_to_list (closed_piece longest b bit)) → IsPaid longest (b ++ bit ∷ [])
paid-flag longest b bit paid long mark copies =
    let c = b ++ bit ∷ [] in
    let opened = ap (open_stored longest c) mark in
    let none = none-behind longest c (length b - 7) (omega (arith, length_push b bit)) in
    omega (arith, paid, copies, opened, none, piece-octets longest b bit (current b) refl, stored-more longest b bit)

paid-step : (longest : ℕ) (b : List Bool) (bit : Bool) (f : EndedMark) → HasEnded bit (ones_at_end b) (length b) f →
    IsPaid longest b → IsPaid longest (b ++ bit ∷ [])
paid-step longest b bit FlagMark found paid =
    let decides = closing longest b bit found in
    paid-flag longest b bit paid found.2 decides.leaves (copied-more longest b bit _ decides.answers)
paid-step longest b bit AbortMark found paid =
    let decides = seven longest b bit found in
    paid-abort longest b bit (length b - 6) paid decides.leaves
    (copied-more longest b bit _ decides.answers ∙ omega (arith, no-octets (current b) (length b - 6)))
paid-step longest b bit IdleMark found paid =
    let decides = fifteen longest b bit found in
    paid-kept longest b bit paid decides.leaves (copied-more longest b bit _ decides.answers ∙ omega arith)
paid-step longest b bit Other found paid =
    let decides = other longest b bit found in
    paid-kept longest b bit paid decides.leaves (copied-more longest b bit _ decides.answers ∙ omega arith)

paid-front : (longest : ℕ) (b : List Bool) (n : ℕ) → n ≤ length b → IsPaid longest (take n b)
paid-front longest b zero within = omega arith
paid-front longest b (suc n) within =
    let before = paid-front longest b n (omega arith) in
    let x = get_or b n false in
    let front = take n b in
    let found = find x (ones_at_end front) (length front) in
    subst (IsPaid longest) (sym (take-suc b n false (omega arith)))
    (paid-step longest front x found.0 found.1 before)

-- the octets of all frames are among those that were stored
pub frames-paid : (longest : ℕ) (b : List Bool) → copied longest b ≤ stored longest b
frames-paid longest b =
    let paid = subst (IsPaid longest) (take_all (length b) b (omega arith))
    (paid-front longest b (length b) (omega arith)) in
    omega (arith, paid)
