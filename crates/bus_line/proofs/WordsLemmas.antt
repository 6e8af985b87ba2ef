-- Words, with a check and octets beside them, as a decoder.
use Rattle.std.proofs.Common.{◌≡◌, ℕ, zero, suc, ◌+◌, ◌-◌, ◌*◌, ◌≤◌, ◌<◌, ◌^◌, ◌==◌, Bool, true, List, ◌++◌, length}
use Rattle.std.proofs.Common.{◌/◌, ◌%◌, Some, refl, ap, ◌∙◌, arith, append-nil, inl, inr}
use Rattle.std.proofs.lemmas.Bool.{cases_Bool, eqb-true}
use Rattle.std.specs.Prelude.{nat_lt}
use Rattle.bus_bits.proofs.CaseLemmas.{lt_true}
use Rattle.bus_fcs.specs.Check.{CheckView}
use Rattle.std.specs.Option.{option_map}
use Rattle.bus_line.specs.Report.{Abort, moved}
use Rattle.bus_line.specs.Due.{Mark, NoMark, FlagAt, AbortAt, piece_report, first_of}
use Rattle.bus_line.specs.Words.{first_in, state}
use Rattle.bus_line.specs.declared.decoder_words.DecoderWords.{DecoderWords}
use Rattle.bus_line.specs.After.{After}
use Rattle.bus_line.specs.Internal.LineView.{settles_from}
use Rattle.bus_line.specs.Internal.Flags.{EndsInFlag, flags, SkipsFlags}
use Rattle.bus_line.specs.Internal.Settled.{HasNoStop, IsWord}
use Rattle.bus_line.proofs.SettleLemmas.{Shifted, shifted-word}
use Rattle.bus_line.proofs.FlagLemmas.{flags-after}

-- the place after which bits settle, by the first place of the piece
pub settles-told : (at : ℕ) → 8 ≤ at → at ≡ settles_from (first_in at)
settles-told at past = elim (cases_Bool (at == 2 ^ 62)) [
  | inl never ↦ rw never (eqb-true at (2 ^ 62) never)
  | inr other ↦ rw other (omega (arith, past))
]

-- an open piece has a first place
pub first-some : (at place : ℕ) → 8 ≤ at → at ≤ place + 8 → place ≤ 2 ^ 60 → first_in at ≡ Some (at - 8)
first-some at place past settles fits = elim (cases_Bool (at == 2 ^ 62)) [
  | inl never ↦ absurd (omega (arith, eqb-true at (2 ^ 62) never, settles, fits))
  | inr other ↦ rw other refl
]

pub first-at : (place : ℕ) → place ≤ 2 ^ 60 → first_in (place + 8) ≡ Some place
first-at place fits = first-some (place + 8) place (omega arith) (omega arith) fits ∙ ap Some (omega arith)

-- an abort ends an open piece
pub aborts : (origin at past end place : ℕ) (mark : Mark) → first_in at ≡ first_of origin mark → past ≡ origin + end →
    past ≤ place → place ≤ 2 ^ 60 → 8 ≤ at → at - 8 < past
    → Some (record { kind = Abort; first = at - 8; past = past })
    ≡ option_map (moved origin) (piece_report (λ p. Abort) mark end)
aborts origin at past end place NoMark opened is-end within fits late some =
    absurd (omega (arith, settles-told at late ∙ ap settles_from opened, some, within, fits))
aborts origin at past end place (AbortAt a) opened is-end within fits late some =
    absurd (omega (arith, settles-told at late ∙ ap settles_from opened, some, within, fits))
aborts origin at past end place (FlagAt q) opened is-end within fits late some =
    let told : at ≡ origin + (q + 8) + 8 = settles-told at late ∙ ap settles_from opened in
    let first : at - 8 ≡ origin + (q + 8) = omega (arith, told) in
    let begun : nat_lt (q + 8) end ≡ true = lt_true (q + 8) end (omega (arith, told, some, is-end)) in
    rw (begun, first, is-end) refl

-- where flags lead
pub flags-skipped : {C : Type 0} (view : CheckView C) (old new : DecoderWords) (check : C)
    (octets : List ℕ) (b : List Bool) (k : ℕ) → SkipsFlags old k new → (0 < k → EndsInFlag b) → new.place ≤ 2 ^ 60 →
    After view (state old check octets) b → After view (state new check octets) (b ++ flags k)
flags-skipped view old new check octets b zero passed ends fits stands =
    rw (append-nil b, passed.none refl) stands
flags-skipped view old new check octets b (suc k) passed ends fits stands =
    let is = passed.some (omega arith) in
    let place : new.place ≡ old.place + 8 * suc k = ap (λ (w : DecoderWords). w.place) is in
    let first : first_in (old.place + 8 * suc k + 8) ≡ Some (old.place + 8 * suc k) =
    first-at (old.place + 8 * suc k) (omega (arith, place, fits)) in
    let d = state old check octets in
    let tracks = flags-after view d b (suc k) (old.place + 8 * suc k) (old.place + 8 * suc k - old.origin)
    (omega arith) ends stands refl in
    rw (is, first) tracks

-- bits that are the last ones now
pub shifted : {C : Type 0} {view : CheckView C} (old new : DecoderWords) (check : C) (octets : List ℕ)
    (b bits : List Bool) (w t : ℕ) → new ≡ record old { place = old.place + t; last_bits = w / 2 ^ t % 65536 }
    → After view (state old check octets) b → IsWord w b bits → t ≤ length bits → HasNoStop b bits (t - 1)
    → Shifted view (state new check octets) w t b bits
shifted old new check octets b bits w t is stands word within no_stop =
    rw is (shifted-word (state old check octets) b bits w t (old.place + t) (w / 2 ^ t % 65536)
    (old.place + t - old.origin) stands word within no_stop refl refl)
