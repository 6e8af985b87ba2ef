-- Flags right after a flag: they decide nothing, and each is the last mark.
use Rattle.std.proofs.Common.{◌≡◌, ℕ, zero, suc, ◌+◌, ◌-◌, ◌*◌, ◌/◌, ◌%◌, ◌^◌, ◌≤◌, ◌<◌, Bool, false, List, [], ◌∷◌}
use Rattle.std.proofs.Common.{◌++◌, length, take, drop, replicate, get_or, Some, None, refl, sym, ap, ◌∙◌, subst, arith}
use Rattle.std.proofs.Common.{append-nil, append_assoc, length-append, Option, ◌==◌, inl, inr, true}
use Rattle.std.specs.List.{slice_range}
use Rattle.std.specs.Option.{option_map}
use Rattle.std.proofs.lemmas.List.{drop_at, take-append-drop, take_all, length-drop, take-append-le, take-replicate}
use Rattle.std.proofs.lemmas.Bool.{cases_lt, eqb-true, agree_below_at}
use Rattle.bus_bits.specs.Octet.{number, bits_of}
use Rattle.bus_bits.proofs.OctetLemmas.{bits-low, bits-split}
use Rattle.bus_fcs.specs.Check.{CheckView}
use Rattle.bus_line.specs.Spelling.{ones}
use Rattle.bus_line.specs.Mark.{flag}
use Rattle.bus_line.specs.Internal.Flags.{flags, EndsInFlag}
use Rattle.bus_line.specs.Report.{Kind, moved}
use Rattle.bus_line.specs.Due.{Mark, FlagAt, current, due_at, placed, piece_report, class_of}
use Rattle.bus_line.specs.After.{After}
use Rattle.bus_line.specs.Run.{ones_at_end}
use Rattle.bus_line.specs.LineState.{LineState}
use Rattle.bus_line.specs.Internal.Tracks.{Holds, HoldsFor, Counts, Tracks, padded, settled_data}
use Rattle.bus_line.specs.Internal.Settled.{HasNoStop}
use Rattle.bus_line.proofs.DueMoreLemmas.{placed-more}
use Rattle.bus_line.proofs.DueLemmas.{piece_report-shut}
use Rattle.bus_line.proofs.DueStreamLemmas.{at-flag, ones_after-last}
use Rattle.bus_line.proofs.StepLemmas.{counts-kept, early-settled, data-start, holds-none, moved-counts, first-Some}
use Rattle.bus_line.proofs.WordLemmas.{length-front, none_number}
use Rattle.bus_line.proofs.SettleLemmas.{next-bit, mark-no_stop}
use Rattle.bus_line.proofs.AdvanceLemmas.{no_stop-placed}
use Rattle.bus_line.specs.Internal.LineView.{settles_from}
use Rattle.bus_line.proofs.MarkLemmas.{last_mark-flag}
use Rattle.std.specs.Int.{bit_at, w64, trailing_zeros}
use Rattle.std.specs.Int.Bits.{bit_xor}
use Rattle.std.proofs.lemmas.Nat.Bits.{bit_at_lowest, bit_at-suc, bit_at-zero, bit_at-lt, bit_at_xor}
use Rattle.std.proofs.lemmas.Nat.Bits.{bit_at-trailing_zeros}

bits-flag : bits_of 8 126 ≡ flag
unfolding bits_of
bits-flag = refl

pub no-bits : (x : ℕ) → bits_of 0 x ≡ []
unfolding bits_of
no-bits x = refl

pub flag-bits : (y : ℕ) → y % 256 ≡ 126 → bits_of 8 y ≡ flag
flag-bits y is = sym (bits-low 8 y) ∙ (ap (bits_of 8) is ∙ bits-flag)

-- one flag more among bits
pub flags-more : (k x : ℕ) → bits_of (8 * k) x ≡ flags k → x / 2 ^ (8 * k) % 256 ≡ 126 →
    bits_of (8 * (k + 1)) x ≡ flags (k + 1)
flags-more k x are next =
    let size : 8 * (k + 1) ≡ 8 * k + 8 = omega arith in
    let more : suc k ≡ k + 1 = omega arith in
    ap (λ (j : ℕ). bits_of j x) size
    ∙ (bits-split (8 * k) 8 x ∙ (rw (are, flag-bits (x / 2 ^ (8 * k)) next) (ap flags more)))

-- all bits of a flag but the last
abbrev opening : List Bool
opening = false ∷ ones 6

pub flag-length : (b : List Bool) (ends : EndsInFlag b) → length b ≡ length ends.front + 8
flag-length b ends = ap length ends.all ∙ length-append ends.front flag

-- what ends in a flag, before its last bit
flag-split : (b : List Bool) (ends : EndsInFlag b) → b ≡ (ends.front ++ opening) ++ false ∷ []
flag-split b ends = ends.all ∙ sym (append_assoc ends.front opening (false ∷ []))

-- it is the last mark
pub flag-last : (b : List Bool) → EndsInFlag b → current b ≡ FlagAt (length b - 8)
flag-last b ends =
    let u = ends.front ++ opening in
    let size = length-append ends.front opening in
    let six : ones_at_end u ≡ 6 = ones_after-last 0 ends.front 6 in
    let place : length u - 7 ≡ length b - 8 = omega (arith, size, flag-length b ends) in
    ap current (flag-split b ends) ∙ ((at-flag 3 u six (omega (arith, size))).leaves ∙ ap FlagAt place)

-- runs of ones in the flag after it
pub run-here : (b : List Bool) → EndsInFlag b → ones_at_end b ≡ 0
run-here b ends = ap ones_at_end (flag-split b ends) ∙ ones_after-last 0 (ends.front ++ opening) 0

front-of-flag : (i : ℕ) → i ≤ 6 → take (suc i) flag ≡ false ∷ ones i
front-of-flag i few = ap (λ (z : List Bool). false ∷ z)
    (take-append-le i (ones 6) (false ∷ []) few ∙ take-replicate i 6 true few)

pub run-in-flag : (b : List Bool) → EndsInFlag b → (i : ℕ) → i ≤ 7 → ones_at_end (b ++ take i flag) ≡ i - 1
run-in-flag b ends zero within = ap ones_at_end (append-nil b) ∙ run-here b ends
run-in-flag b ends (suc i) within =
    ap (λ (x : List Bool). ones_at_end (b ++ x)) (front-of-flag i (omega (arith, within)))
    ∙ (ones_after-last 0 b i ∙ omega arith)

pub flag-no_stop : (b : List Bool) → EndsInFlag b → HasNoStop b flag 7
flag-no_stop b ends = λ i before.
    let run = run-in-flag b ends i (omega (arith, before)) in
    ((λ six. omega (arith, run, six, before)), λ more. omega (arith, run, more, before))

-- flags after a flag end in one
pub flags-end : (b : List Bool) (k : ℕ) → EndsInFlag b → EndsInFlag (b ++ flags k)
flags-end b zero ends = subst EndsInFlag (sym (append-nil b)) ends
flags-end b (suc k) ends = record { front = b ++ flags k; all = sym (append_assoc b (flags k) flag) }

-- a flag decides nothing
flag-due : (longest : ℕ) (b : List Bool) → EndsInFlag b →
    due_at longest ((b ++ opening) ++ false ∷ []) (length (b ++ opening)) ≡ None
flag-due longest b ends =
    let u = b ++ opening in
    let size : length u ≡ length b + 7 = length-append b opening in
    let room = flag-length b ends in
    let six : ones_at_end u ≡ 6 = ones_after-last 0 b 6 in
    let kind : ℕ → Kind = λ p. class_of longest (slice_range (u ++ false ∷ []) (p + 8) (length u - 7)) in
    let last : current u ≡ FlagAt (length b - 8) = mark-no_stop b flag 7 7 (flag-no_stop b ends) (omega arith)
    (omega arith)
    ∙ flag-last b ends in
    (at-flag longest u six (omega (arith, size, room))).answers
    ∙ (ap (λ (x : Mark). piece_report kind x (length u - 7)) last
    ∙ piece_report-shut kind (length b - 8) (length u - 7) (omega (arith, size, room)))

pub flag-placed : (origin longest : ℕ) (b : List Bool) → EndsInFlag b → (i : ℕ) → i ≤ 7 →
    placed origin longest (b ++ take i flag) ≡ placed origin longest b
flag-placed origin longest b ends i within =
    no_stop-placed origin longest 7 b flag (flag-no_stop b ends) i within (omega (arith, within))

pub flag-adds : (origin longest : ℕ) (b : List Bool) → EndsInFlag b →
    placed origin longest (b ++ flag) ≡ placed origin longest b
flag-adds origin longest b ends =
    let u = b ++ opening in
    ap (placed origin longest) (sym (append_assoc b opening (false ∷ [])))
    ∙ (placed-more origin longest u false None (sym (ap (option_map (moved origin)) (flag-due longest b ends)))
    ∙ (append-nil (placed origin longest u) ∙ flag-placed origin longest b ends 7 (omega arith)))

-- nor does it settle anything
flag-counts : {C : Type 0} (cost : ℕ) (d : LineState C) (b : List Bool) → EndsInFlag b → Counts cost d b → (i : ℕ) →
    i ≤ 8 → Counts cost d (b ++ take i flag)
flag-counts cost d b ends counts zero within = subst (Counts cost d) (sym (append-nil b)) counts
flag-counts cost d b ends counts (suc i) within =
    let u = b ++ take i flag in
    let bit = get_or flag i false in
    let room = flag-length b ends in
    let size : length u ≡ length b + i = length-front i b flag (omega (arith, within)) in
    let last : current u ≡ FlagAt (length b - 8) =
    mark-no_stop b flag 7 i (flag-no_stop b ends) (omega (arith, within)) (omega (arith, within)) ∙ flag-last b ends in
    rw (next-bit i b flag (omega (arith, within)))
    (counts-kept cost d u bit (early-settled u bit (length b - 8) last (omega (arith, size, room, within)))
    (flag-counts cost d b ends counts i (omega (arith, within))))

two-flags : number (flag ++ flag) ≡ 32382
unfolding number
two-flags = refl

-- the last sixteen bits are two flags
flag-last-bits : (b : List Bool) → EndsInFlag b → number (drop (length (b ++ flag)) (padded (b ++ flag))) ≡ 32382
flag-last-bits b ends =
    let front : List Bool = replicate 16 false ++ ends.front in
    let size : length front ≡ length (b ++ flag) =
    omega (arith, length-append (replicate 16 false) ends.front, length-append b flag, flag-length b ends) in
    let parts : padded (b ++ flag) ≡ front ++ (flag ++ flag) =
    ap (λ (x : List Bool). replicate 16 false ++ (x ++ flag)) ends.all
    ∙ (ap (λ (x : List Bool). replicate 16 false ++ x) (append_assoc ends.front flag flag)
    ∙ sym (append_assoc (replicate 16 false) ends.front (flag ++ flag))) in
    ap (λ (x : List Bool). number (drop (length (b ++ flag)) x)) parts
    ∙ (ap number (drop_at front (flag ++ flag) (length (b ++ flag)) size) ∙ two-flags)

-- the state after it
pub flag-after : {C : Type 0} (view : CheckView C) (d : LineState C) (b : List Bool)
    (place shifted : ℕ) → EndsInFlag b → After view d b → place ≡ d.place + 8
    → After view
    (record d { place = place; last_bits = 32382; first = Some place; spent = record d.spent { shifted = shifted } })
    (b ++ flag)
flag-after view d b place shifted ends stands at =
    let size = length-append b flag in
    let room = flag-length b ends in
    let ended : EndsInFlag (b ++ flag) = record { front = b; all = refl } in
    let old : Holds view.folded d (settled_data b (length b - 8)) =
    subst (HoldsFor view.folded d b) (flag-last b ends) stands.piece in
    let before : settled_data b (length b - 8) ≡ [] = data-start b (length b - 8) (omega (arith, room)) in
    let none : settled_data (b ++ flag) (length b) ≡ [] = data-start (b ++ flag) (length b) (omega (arith, size)) in
    let empty : Holds view.folded d [] = subst (Holds view.folded d) before old in
    let here = stands.has_taken.place in
    let last : current (b ++ flag) ≡ FlagAt (length b) =
    flag-last (b ++ flag) ended ∙ ap FlagAt (omega (arith, size)) in
    subst (Tracks view _ (b ++ flag)) (sym last) (record {
      has_taken = record { place = at ∙ omega (arith, here, size); last_bits = sym (flag-last-bits b ends) };
      first = ap Some (at ∙ omega (arith, here));
      piece = rw none (holds-none empty.count (empty.partial ∙ none_number));
      counts = moved-counts refl refl refl (flag-counts view.cost d b ends stands.counts 8 (omega arith));
    })

-- many of them
pub flags-after : {C : Type 0} (view : CheckView C) (d : LineState C) (b : List Bool)
    (k place shifted : ℕ) → 0 < k → (0 < k → EndsInFlag b) → After view d b → place ≡ d.place + 8 * k
    → After view
    (record d { place = place; last_bits = 32382; first = Some place; spent = record d.spent { shifted = shifted } })
    (b ++ flags k)
flags-after view d b zero place shifted some ends stands at = absurd (omega (arith, some))
flags-after view d b (suc zero) place shifted some ends stands at =
    flag-after view d b place shifted (ends some) stands (omega (arith, at))
flags-after view d b (suc (suc k)) place shifted some ends stands at =
    let end = ends some in
    let before = flags-after _ d b (suc k) (d.place + 8 * suc k) shifted (omega arith) (λ some. end) stands refl in
    subst
    (After view
    (record d { place = place; last_bits = 32382; first = Some place; spent = record d.spent { shifted = shifted } }))
    (append_assoc b (flags (suc k)) flag)
    (flag-after view _ (b ++ flags (suc k)) place shifted (flags-end b (suc k) end) before (omega (arith, at)))

-- ---- runs of flags right after a flag: how many bits they are, and how far a decoder goes

-- ---- the bits of flags

pub flags-length : (k : ℕ) → length (flags k) ≡ 8 * k
flags-length zero = refl
flags-length (suc k) = length-append (flags k) flag ∙ omega (arith, flags-length k)

-- ---- whether there are any

-- the decoder's place tells whether a flag ended there
pub mark-is : {C : Type 0} (view : CheckView C) (d : LineState C) (at : ℕ) (b : List Bool) →
    After view d b → at ≡ settles_from d.first → d.place ≤ 2 ^ 60 → at ≡ d.place + 8 → EndsInFlag b
mark-is view d at b after settles fits at-flag = found d.first refl
  where
    found : (first : Option ℕ) → d.first ≡ first → EndsInFlag b
    found None opened = absurd (omega (arith, ap settles_from opened, settles, fits, at-flag))
    found (Some first) opened =
        let mark = first-Some d.origin first (current b) (sym after.first ∙ opened) in
        let place = after.has_taken.place in
        let size : mark.0 + 8 ≡ length b = omega (arith, ap settles_from opened, settles, at-flag, mark.2, place) in
        let stands = (last_mark-flag b (length b) mark.0 mark.1).flag in
        let all = take_all 8 (drop mark.0 b) (omega (arith, length-drop mark.0 b, size)) in
        record {
          front = take mark.0 b;
          all = sym (take-append-drop mark.0 b) ∙ ap (λ (z : List Bool). take mark.0 b ++ z) (sym all ∙ stands);
        }

-- ---- what they decide

pub flags-placed : (origin longest : ℕ) (b : List Bool) (k : ℕ) → (0 < k → EndsInFlag b) →
    placed origin longest (b ++ flags k) ≡ placed origin longest b
flags-placed origin longest b zero ends = ap (placed origin longest) (append-nil b)
flags-placed origin longest b (suc k) ends =
    let end = ends (omega arith) in
    ap (placed origin longest) (sym (append_assoc b (flags k) flag))
    ∙ (flag-adds origin longest (b ++ flags k) (flags-end b k end) ∙ flags-placed origin longest b k (λ some. end))

-- ---- how many flags bits begin with: the lowest bit that differs from those of seven flags tells

-- seven flags in one word
abbrev pub seven_flags : ℕ
seven_flags = 35604928818740862

same-low : (k x y : ℕ) → ((i : ℕ) → i < k → bit_at x i ≡ bit_at y i) → bits_of k x ≡ bits_of k y
unfolding bits_of
same-low zero x y h = refl
same-low (suc k) x y h =
    let e : x % 2 ≡ y % 2 = sym (bit_at_lowest x) ∙ (h 0 (omega arith) ∙ bit_at_lowest y) in
    let r =
    same-low k (x / 2) (y / 2) (λ i l. sym (bit_at-suc x i) ∙ (h (suc i) (omega (arith, l)) ∙ bit_at-suc y i)) in
    ap (λ (n : ℕ). (n == 1) ∷ bits_of k (x / 2)) e ∙ ap (λ (z : List Bool). (y % 2 == 1) ∷ z) r

octet-of : (k : ℕ) → k < 7 → seven_flags / 2 ^ (8 * k) % 256 ≡ 126
octet-of k below = eqb-true (seven_flags / 2 ^ (8 * k) % 256) 126
    (agree_below_at (λ j. seven_flags / 2 ^ (8 * j) % 256 == 126) (λ j. true) 7 k refl below)

flags-of : (k : ℕ) → k ≤ 7 → bits_of (8 * k) seven_flags ≡ flags k
flags-of zero h = no-bits seven_flags
flags-of (suc k) h =
    let n : 8 * suc k ≡ 8 * (k + 1) = omega arith in
    let m : k + 1 ≡ suc k = omega arith in
    ap (λ (j : ℕ). bits_of j seven_flags) n
    ∙ (flags-more k seven_flags (flags-of k (omega (arith, h))) (octet-of k (omega (arith, h))) ∙ ap flags m)

-- the place of the lowest bit in which x differs from seven flags
abbrev pub first_other : ℕ → ℕ
first_other x = trailing_zeros w64 (bit_xor x seven_flags)

same-bit : (x i : ℕ) → bit_at (bit_xor x seven_flags) i ≡ 0 → bit_at x i ≡ bit_at seven_flags i
same-bit x i h = let a = bit_at-lt x i in let b = bit_at-lt seven_flags i in let e =
    bit_at_xor x seven_flags i in omega (arith, h, a, b, e)

agree-below : (x i : ℕ) → bit_xor x seven_flags < 2 ^ 64 → i < first_other x → bit_at x i ≡ bit_at seven_flags i
agree-below x i h l =
    same-bit x i (elim (cases_lt 0 (bit_xor x seven_flags)) [
      | inl p ↦ (bit_at-trailing_zeros w64 (bit_xor x seven_flags) p h).2 i l
      | inr z ↦ let e : bit_xor x seven_flags ≡ 0 = omega (arith, z) in ap (λ (n : ℕ). bit_at n i) e ∙ bit_at-zero i
    ])

-- the flags below that bit
pub flags-below : (x r : ℕ) → bit_xor x seven_flags < 2 ^ 64 → 8 * r ≤ first_other x → r ≤ 7 → bits_of (8 * r) x ≡ flags
    r
flags-below x r h l few = same-low (8 * r) x seven_flags (λ i m. agree-below x i h (omega (arith, l, m))) ∙ flags-of r
    few
