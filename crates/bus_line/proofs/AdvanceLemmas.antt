-- Bits taken at once: what they decide.
use Rattle.std.proofs.Common.{◌≡◌, ℕ, zero, suc, ◌+◌, ◌*◌, ◌%◌, ◌^◌, ◌≤◌, ◌<◌, Bool, false, List, [], ◌∷◌, ◌++◌}
use Rattle.std.proofs.Common.{length, take, get_or, None, refl, sym, ap, ◌∙◌, subst, arith, inl, inr}
use Rattle.std.specs.Prelude.{bit_or}
use Rattle.std.specs.Option.{option_map}
use Rattle.std.specs.Int.Bits.{or_shifted_r}
use Rattle.std.proofs.lemmas.Nat.{shl_whole}
use Rattle.std.proofs.lemmas.List.{append-nil}
use Rattle.bus_bits.specs.Octet.{bits_of}
use Rattle.bus_bits.proofs.OctetLemmas.{number-bits}
use Rattle.bus_fcs.specs.Check.{CheckView}
use Rattle.bus_line.specs.Report.{moved}
use Rattle.bus_line.specs.Due.{current, placed}
use Rattle.bus_line.specs.LineState.{LineState}
use Rattle.bus_line.specs.Internal.Tracks.{HasTaken, Tracks}
use Rattle.bus_line.specs.After.{After}
use Rattle.bus_line.specs.Internal.Settled.{HasNoStop, IsWord, IsStop}
use Rattle.bus_line.proofs.DueMoreLemmas.{placed-more}
use Rattle.bus_line.proofs.StepLemmas.{decides-nothing}
use Rattle.bus_line.proofs.WordLemmas.{last-below, word-made, word-just}
use Rattle.bus_line.proofs.SettleLemmas.{next-bit, mark-no_stop}

-- ---- the word

-- what the machine joins is the word
pub word-joined : {C : Type 0} (d : LineState C) (n x : ℕ) (b : List Bool) → HasTaken d b → n ≤ 48 → x < 2 ^ n →
    IsWord (bit_or d.last_bits (x * 65536 % 18446744073709551616)) b (bits_of n x)
word-joined d n x b taken few small =
    let low : d.last_bits < 65536 = omega (arith, taken.last_bits, last-below b) in
    let shifted : x * 65536 % 18446744073709551616 ≡ x * 2 ^ 16 = shl_whole x n 16 64 small (omega (arith, few)) in
    let joined : bit_or d.last_bits (x * 65536 % 18446744073709551616) ≡ d.last_bits + x * 65536 =
    ap (bit_or d.last_bits) shifted ∙ (or_shifted_r x 16 d.last_bits low ∙ omega arith) in
    joined ∙ word-made d.last_bits x b (bits_of n x) taken.last_bits (sym (number-bits n x small))

-- there is none before the first stop
pub no_stop-before : (w n : ℕ) (b bits : List Bool) → IsWord w b bits → n ≤ length bits →
    ((i : ℕ) → i < n → IsStop w i → ⊥) → HasNoStop b bits n
no_stop-before w n b bits word within no_stop = λ i before.
    let six = word-just 6 9 w i b bits refl word (omega (arith, within, before)) in
    let more = word-just 14 1 w i b bits refl word (omega (arith, within, before)) in (
      (λ run. no_stop i before (inl (omega (arith, six.1 run)))),
      λ run. no_stop i before
          (inr (omega (arith, more.1 run))),
    )

-- ---- bits without a stop decide nothing

pub no_stop-placed : (origin longest n : ℕ) (b bits : List Bool) → HasNoStop b bits n → (i : ℕ) → i ≤ n → i ≤ length
    bits →
    placed origin longest (b ++ take i bits) ≡ placed origin longest b
no_stop-placed origin longest n b bits no_stop zero within inside = ap (placed origin longest) (append-nil b)
no_stop-placed origin longest n b bits no_stop (suc i) within inside =
    let u = b ++ take i bits in
    let x = get_or bits i false in
    let here = no_stop i (omega (arith, within)) in
    let nothing = (decides-nothing longest u x here.0 here.1).answers in
    ap (placed origin longest) (next-bit i b bits (omega (arith, inside)))
    ∙ (placed-more origin longest u x None (sym (ap (option_map (moved origin)) nothing))
    ∙ (append-nil (placed origin longest u) ∙ no_stop-placed origin longest n b bits no_stop i (omega (arith, within))
    (omega (arith, inside))))

-- what is settled with the mark before them is so with theirs
pub no_stop-after : {C : Type 0} (view : CheckView C) (n : ℕ) (d : LineState C) (b bits : List Bool) →
    HasNoStop b bits n → n ≤ length bits → Tracks view d (b ++ take n bits) (current b) →
    After view d (b ++ take n bits)
no_stop-after view n d b bits no_stop within tracks =
    subst (Tracks view d (b ++ take n bits)) (sym (mark-no_stop b bits n n no_stop (omega arith) within)) tracks

-- ---- the bit after bits without a stop

-- is still to be decided
pub tracks-last : {C : Type 0} (view : CheckView C) (n : ℕ) (d : LineState C) (b bits : List Bool) →
    HasNoStop b bits n → n < length bits → Tracks view d (b ++ take (suc n) bits) (current b)
    → Tracks view d ((b ++ take n bits) ++ get_or bits n false ∷ []) (current (b ++ take n bits))
tracks-last view n d b bits no_stop inside tracks =
    rw (← next-bit n b bits inside, mark-no_stop b bits n n no_stop (omega arith) (omega (arith, inside))) tracks
