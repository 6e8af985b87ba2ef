-- What a piece between two flags is, by what a decoder holds.
use Rattle.std.proofs.Common.{◌≡◌, ◌≢◌, ℕ, suc, ◌+◌, ◌-◌, ◌*◌, ◌/◌, ◌%◌, ◌≤◌, ◌<◌, ◌==◌, Bool, true, false, List, []}
use Rattle.std.proofs.Common.{◌∷◌, ◌++◌, length, take, get_or, refl, sym, ap, ◌∙◌, subst, arith, if◌then◌else◌}
use Rattle.std.specs.List.{slice_range}
use Rattle.std.specs.Prelude.{nat_lt, IsTrue, ◌↔◌, bit_and}
use Rattle.std.proofs.lemmas.Nat.{and_mask}
use Rattle.std.proofs.Math.Seq.{take-add}
use Rattle.std.proofs.lemmas.List.{length_push, take_all, take_more}
use Rattle.std.proofs.lemmas.Bool.{false_from_ne_true, eqb-true}
use Rattle.std.proofs.lemmas.Bool.Decides.{nat_tests}
use Rattle.bus_bits.specs.Octet.{octets, bits_of_octets}
use Rattle.bus_fcs.specs.FrameCheck.{Good, is_good}
use Rattle.bus_fcs.specs.Check.{CheckView}
use Rattle.bus_line.specs.Run.{ones_after, ones_at_end, data_so_far}
use Rattle.bus_line.specs.Mark.{flag, IsFlag}
use Rattle.bus_line.specs.Report.{Frame, Damaged, Overlong, class_of_data}
use Rattle.bus_line.specs.declared.cause.Cause.TheVariants.{Unstuffed, Short, Unaligned, Fcs}
use Rattle.bus_line.specs.Due.{FlagAt, current, class_of, class_of_read}
use Rattle.bus_line.specs.LineState.{LineState}
use Rattle.bus_line.specs.Internal.Settled.{HoldsOctets}
use Rattle.bus_line.specs.Internal.Tracks.{settled_data, Holds, HoldsFor, Tracks}
use Rattle.bus_line.proofs.RunLemmas.{IsLow, low-unspelled, ones_after-more}
use Rattle.bus_line.proofs.MarkLemmas.{stands-bit, last_mark-flag}
use Rattle.bus_line.proofs.DueMoreLemmas.{range-append}
use Rattle.bus_line.proofs.SpellingRawLemmas.{current-low, low-ones}
use Rattle.bus_line.proofs.DueStreamLemmas.{flag-fits}
use Rattle.bus_line.proofs.WordLemmas.{last-bits-five}
use Rattle.bus_line.proofs.WholeLemmas.{length-octets, data-checked}
use Rattle.bus_fcs.proofs.FrameCheckLemmas.{same_test}

ones_after-append : (k : ℕ) (x y : List Bool) → ones_after k (x ++ y) ≡ ones_after (ones_after k x) y
ones_after-append k [] y = refl
ones_after-append k (true ∷ x) y = ones_after-append (suc k) x y
ones_after-append k (false ∷ x) y = ones_after-append 0 x y

-- a flag ends in a 0
flag-zero : (b : List Bool) (p : ℕ) → IsFlag b p → ones_at_end (take (p + 8) b) ≡ 0
flag-zero b p is-flag =
    let low : get_or b (p + 7) false ≡ false = stands-bit b p flag 7 (p + 7) is-flag (omega arith) refl in
    let size : p + 8 ≡ (p + 7) + 1 = omega arith in
    let parts : take (p + 8) b ≡ take (p + 7) b ++ false ∷ [] =
    ap (λ k. take k b) size
    ∙ (take_more b (p + 7) false (omega (arith, flag-fits b p is-flag)) ∙ ap (λ y. take (p + 7) b ++ y ∷ []) low) in
    ap ones_at_end parts ∙ ones_after-more 0 (take (p + 7) b) false

-- the ones at the end of a piece are those at the end of the bits up to there
piece-ones : (b : List Bool) (p m : ℕ) → IsFlag b p → p + 8 ≤ m →
    ones_at_end (take m b) ≡ ones_at_end (slice_range b (p + 8) m)
piece-ones b p m is-flag within =
    let raw = slice_range b (p + 8) m in
    let size : m ≡ (p + 8) + (m - (p + 8)) = omega arith in
    let parts : take m b ≡ take (p + 8) b ++ raw = ap (λ k. take k b) size ∙ take-add (p + 8) (m - (p + 8)) b in
    ap ones_at_end parts ∙ (ones_after-append 0 (take (p + 8) b) raw ∙ rw (flag-zero b p is-flag) refl)

-- the piece that the newest bit closes: its raw bits, and what the decoder holds of their data
pub record IsClosed {C : Type 0} (folded : C → List ℕ → Type 0) (d : LineState C) (raw : List Bool) : Type 0 where
  pub low : IsLow 0 raw
  pub five : bit_and (d.last_bits / 8) 31 ≡ 31 → 5 ≤ ones_at_end raw
  pub fewer : 5 ≤ ones_at_end raw → bit_and (d.last_bits / 8) 31 ≡ 31
  pub holds : Holds folded d (data_so_far raw)

pub is_closed : {C : Type 0} {view : CheckView C} {d : LineState C} (b : List Bool) (bit : Bool) (p : ℕ)
    → Tracks view d (b ++ bit ∷ []) (current b) → current b ≡ FlagAt p → p + 15 < length b
    → IsClosed view.folded d (slice_range (b ++ bit ∷ []) (p + 8) (length b - 7))
is_closed {C} {view} {d} b bit p tracks last some =
    let m = length b - 7 in
    let same : slice_range (b ++ bit ∷ []) (p + 8) m ≡ slice_range b (p + 8) m =
    range-append b (bit ∷ []) (p + 8) m (omega arith) in
    let end : length (b ++ bit ∷ []) - 8 ≡ m = omega (arith, length_push b bit) in
    let five-bits : bit_and (d.last_bits / 8) 31 ≡ d.last_bits / 8 % 32 = and_mask (d.last_bits / 8) 5 in
    let shown = last-bits-five d.last_bits b bit (omega arith) tracks.has_taken.last_bits in
    let run : ones_at_end (take m b) ≡ ones_at_end (slice_range (b ++ bit ∷ []) (p + 8) m) =
    piece-ones b p m (last_mark-flag b (length b) p last).flag (omega arith) ∙ ap ones_at_end (sym same) in
    let held : Holds view.folded d (settled_data (b ++ bit ∷ []) p) =
    subst (HoldsFor view.folded d (b ++ bit ∷ [])) last tracks.piece in
    record {
      low = subst (IsLow 0) (sym same) (current-low b p m last (omega arith));
      five = λ is. omega (arith, run, shown.0 (sym five-bits ∙ is));
      fewer = λ is. five-bits ∙ shown.1 (omega (arith, run, is));
      holds = subst (λ k. Holds view.folded d (data_so_far (slice_range (b ++ bit ∷ []) (p + 8) k))) end held;
    }

-- five ones before the flag
pub class-five : {C : Type 0} {folded : C → List ℕ → Type 0} {d : LineState C} {raw : List Bool} (longest : ℕ) →
    IsClosed folded d raw → bit_and (d.last_bits / 8) 31 ≡ 31 → class_of longest raw ≡ Damaged Unstuffed
class-five {C} {folded} {d} {raw} longest closed shown =
    let five : (ones_at_end raw == 5) ≡ true = grind (arith, nat_tests, closed.five shown, low-ones 0 raw closed.low) in
    ap (class_of_read longest) (low-unspelled raw closed.low) ∙ rw five refl

-- no five: the data are read
pub class-read : {C : Type 0} {folded : C → List ℕ → Type 0} {d : LineState C} {raw : List Bool} (longest : ℕ) →
    IsClosed folded d raw → bit_and (d.last_bits / 8) 31 ≢ 31 →
    class_of longest raw ≡ class_of_data longest (data_so_far raw)
class-read {C} {folded} {d} {raw} longest closed not-shown =
    let not-five : (ones_at_end raw == 5) ≡ false =
    false_from_ne_true _ (λ is. not-shown (closed.fewer (omega (arith, eqb-true (ones_at_end raw) 5 is)))) in
    ap (class_of_read longest) (low-unspelled raw closed.low) ∙ rw not-five refl

-- the first case that fits
pub data-over : (longest : ℕ) (d : List Bool) → 8 * (longest + 2) < length d → class_of_data longest d ≡ Overlong
data-over longest d long =
    let is : nat_lt (8 * (longest + 2)) (length d) ≡ true = grind (arith, nat_tests) in
    rw is refl

pub data-short : (longest : ℕ) (d : List Bool) → length d ≤ 8 * (longest + 2) → length d < 32 →
    class_of_data longest d ≡ Damaged Short
data-short longest d most short =
    let fits : nat_lt (8 * (longest + 2)) (length d) ≡ false = grind (arith, nat_tests) in
    let is : nat_lt (length d) 32 ≡ true = grind (arith, nat_tests) in
    rw (fits, is) refl

pub data-unaligned : (longest : ℕ) (d : List Bool) → length d ≤ 8 * (longest + 2) → 32 ≤ length d → length d % 8 ≢ 0 →
    class_of_data longest d ≡ Damaged Unaligned
data-unaligned longest d most least odd =
    let fits : nat_lt (8 * (longest + 2)) (length d) ≡ false = grind (arith, nat_tests) in
    let long : nat_lt (length d) 32 ≡ false = grind (arith, nat_tests) in
    let is : (length d % 8 == 0) ≡ false = grind (arith, nat_tests) in
    rw (fits, long, is) refl

-- all octets of the data are held
all-held : {C : Type 0} (folded : C → List ℕ → Type 0) (d : LineState C) (bits : List Bool) →
    HoldsOctets folded (d.longest + 2) d (octets bits) → 32 ≤ length bits → length bits ≤ 8 * (d.longest + 2)
    → (d.octets ≡ octets bits) × folded d.check (octets bits) × (4 ≤ length (octets bits))
all-held folded d bits holds least most =
    let size : length (octets bits) ≡ length bits / 8 = length-octets (length bits / 8) bits refl in
    let whole : take (d.longest + 2) (octets bits) ≡ octets bits =
    take_all (d.longest + 2) (octets bits) (omega (arith, size)) in (
      holds.held ∙ whole,
      subst (λ (os : List ℕ). folded d.check os) whole holds.checked,
      omega (arith, size),
    )

-- data that were checked
pub class-checked : {C : Type 0} {folded : C → List ℕ → Type 0} {d : LineState C} (bits : List Bool) (good : Bool) →
    HoldsOctets folded (d.longest + 2) d (octets bits) → 32 ≤ length bits → length bits ≤ 8 * (d.longest + 2) →
    length bits % 8 ≡ 0
    → ((os : List ℕ) → folded d.check os → 4 ≤ length os → (IsTrue good ↔ Good (bits_of_octets os))) →
    class_of_data d.longest bits ≡ (if good then Frame d.octets else Damaged Fcs)
class-checked {C} {folded} {d} bits good holds least most whole test =
    let held = all-held folded d bits holds least most in
    let same : good ≡ is_good (bits_of_octets (octets bits)) =
    same_test good (bits_of_octets (octets bits)) (test (octets bits) held.1 held.2) in
    data-checked d.longest bits most least whole
    ∙ (ap (λ (t : Bool). if t then Frame (octets bits) else Damaged Fcs) (sym same)
    ∙ ap (λ (os : List ℕ). if good then Frame os else Damaged Fcs) (sym held.0))
