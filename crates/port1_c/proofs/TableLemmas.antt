-- The entries of a table.
use Rattle.std.proofs.Common.{◌≡◌, ◌≢◌, ℕ, zero, suc, ◌+◌, ◌<◌, ◌==◌, Bool, true, false, List, [], ◌∷◌, Option, None}
use Rattle.std.proofs.Common.{Some, refl, sym, ap, ◌∙◌, arith, slice_get}
use Rattle.std.specs.List.{cons_option}
use Rattle.std.specs.Option.{option_and_then, option_map}
use Rattle.std.proofs.lemmas.Bool.{ne_eqb, eq-eqb}
use Rattle.bus_dictionary.specs.Dictionary.{entry_at}
use Rattle.bus_dictionary.specs.Entry.{FrameType}
use Rattle.bus_dictionary.specs.Rule.{rule_of}
use Rattle.port1_c.specs.Pair.{entries_told, known, rule_told, type_told}
use Rattle.port1_c.specs.declared.entry.Port1Entry.{Port1Entry}

-- an entry of another type is passed over
passed : (t first : ℕ) (e : Port1Entry) (more : List FrameType) → (first == t) ≡ false →
    entry_at t (cons_option (known first e) more) ≡ entry_at t more
passed t first e more n = step (e.known == 0) refl
  where
    step : (b : Bool) → (e.known == 0) ≡ b → entry_at t (cons_option (known first e) more) ≡ entry_at t more
    step true q = rw q refl
    step false q = rw q (rw n refl)

-- there is none of a type before the first
pub entry-before : (es : List Port1Entry) (first t : ℕ) → t < first → entry_at t (entries_told first es) ≡ None
unfolding entries_told
entry-before [] first t l = refl
entry-before (e ∷ es) first t l =
    passed t first e (entries_told (first + 1) es) (ne_eqb first t (λ q. omega (arith, q, l)))
    ∙ entry-before es (first + 1) t (omega (arith, l))

-- that of each other type is the table's
pub entry-of : (es : List Port1Entry) (first i t : ℕ) → t ≡ first + i →
    entry_at t (entries_told first es) ≡ option_and_then (known t) (slice_get es i)
unfolding entries_told
entry-of [] first i t q = refl
entry-of (e ∷ es) first zero t q = step (e.known == 0) refl
  where
    same : first ≡ t
    same = omega (arith, q)

    step : (b : Bool) → (e.known == 0) ≡ b → entry_at t (cons_option (known first e) (entries_told (first + 1) es))
        ≡ known t e
    step true k = rw k (entry-before es (first + 1) t (omega (arith, q)))
    step false k = rw k (rw (eq-eqb first t same) (ap (λ n. Some (type_told n e)) same))
entry-of (e ∷ es) first (suc i) t q =
    passed t first e (entries_told (first + 1) es) (ne_eqb first t (λ s. omega (arith, s, q)))
    ∙ entry-of es (first + 1) i t (omega (arith, q))

is-known : (t : ℕ) (e : Port1Entry) → e.known ≢ 0 → known t e ≡ Some (type_told t e)
is-known t e k = rw (ne_eqb e.known 0 k) refl

is-unknown : (t : ℕ) (e : Port1Entry) → e.known ≡ 0 → known t e ≡ None
is-unknown t e k = rw (eq-eqb e.known 0 k) refl

module _ (es : List Port1Entry) (t : ℕ) where
  looked-up : (o : Option Port1Entry) → slice_get es t ≡ o
      → entry_at t (entries_told 0 es) ≡ option_and_then (known t) o
  looked-up o g = entry-of es 0 t t (omega arith) ∙ ap (λ o. option_and_then (known t) o) g

  -- so a known entry of the table is the rule for its type
  pub rule-known : (e : Port1Entry) → slice_get es t ≡ Some e → e.known ≢ 0 →
      Some (rule_told e) ≡ option_map rule_of (entry_at t (entries_told 0 es))
  rule-known e g k = sym (ap (λ o. option_map rule_of o) (looked-up (Some e) g ∙ is-known t e k))

  -- and of any other type there is none
  pub rule-unknown : (e : Port1Entry) → slice_get es t ≡ Some e → e.known ≡ 0 →
      None ≡ option_map rule_of (entry_at t (entries_told 0 es))
  rule-unknown e g k = sym (ap (λ o. option_map rule_of o) (looked-up (Some e) g ∙ is-unknown t e k))

  pub rule-none : slice_get es t ≡ None → None ≡ option_map rule_of (entry_at t (entries_told 0 es))
  rule-none g = sym (ap (λ o. option_map rule_of o) (looked-up None g))
