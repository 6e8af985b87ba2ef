-- The levels that count in 64 samples are carries of a sum.
use Rattle.std.proofs.Common.{◌≡◌, ℕ, zero, suc, ◌+◌, ◌-◌, ◌*◌, ◌/◌, ◌%◌, ◌^◌, ◌<◌, ◌≤◌, ◌==◌, ◌&&◌, not}
use Rattle.std.proofs.Common.{Bool, true, false, if◌then◌else◌, List, ◌++◌, length, refl, sym, ap, ◌∙◌, arith, inl, inr}
use Rattle.std.proofs.Common.{cond}
use Rattle.std.proofs.Common.{length-append, get_or}
use mir.Val.{bool_byte}
use Rattle.std.specs.Bool.{beq}
use Rattle.std.specs.Int.{bit_at}
use Rattle.std.specs.Prelude.{bit_and, bit_or, bit_xor}
use Rattle.std.proofs.lemmas.List.{get_or-append_right}
use Rattle.std.proofs.lemmas.Bool.{cases_lt, cases_Bool}
use Rattle.std.proofs.lemmas.Nat.Bits.{bit_at_and, bit_at_or}
use Rattle.bus_tap.specs.Blocks.{has_bit, HasLevels}
use Rattle.bus_tap.specs.Internal.Counts.{HasCounted, HadCounted}
use Rattle.bus_tap.specs.Sampled.{Channel, HeldState, IsHeldAfter, level, counted_level}
use Rattle.bus_tap.proofs.CarryLemmas.{carry, carry-bit, next-bit, earlier-first, earlier-next}
use Rattle.bus_tap.proofs.OnesLemmas.{as-bool, bit-is, same-bit}
use Rattle.bus_tap.proofs.SampledLemmas.{counted-at, counted-front, level-front, same-bool, other-bool, not-not}

-- two of three
majority : (x p k : Bool) → (cond x 1 0 + cond p 1 0 + cond k 1 0) / 2 ≡ cond (if beq p x then x else k) 1 0
majority true true true = refl
majority true true false = refl
majority true false true = refl
majority true false false = refl
majority false true true = refl
majority false true false = refl
majority false false true = refl
majority false false false = refl

if-self : (x k : Bool) → (if beq x x then x else k) ≡ x
if-self true k = refl
if-self false k = refl

and-one : (b : Bool) → (b && true) ≡ b
and-one true = refl
and-one false = refl

as-small : (b : Bool) → cond b 1 0 ≤ 1
as-small true = omega arith
as-small false = omega arith

-- the level that is compared with that of sample `j`: that of the sample before, or its own where each counts at once
abbrev pub compared : ℕ → Channel → List ℕ → ℕ → Bool
compared zero channel ss j = level channel ss j
compared (suc hold) channel ss j = level channel ss (j - 1)

pub counted-next : (hold : ℕ) → hold ≤ 1 → (channel : Channel) (ss : List ℕ) (j : ℕ) → 1 ≤ j →
    counted_level hold channel ss j ≡ (if beq (compared hold channel ss j) (level channel ss j) then level channel ss j
    else counted_level hold channel ss (j - 1))
counted-next zero few channel ss j some =
    counted-at 0 channel ss j some ∙ sym (if-self (level channel ss j) (counted_level 0 channel ss (j - 1)))
counted-next (suc zero) few channel ss j some =
    counted-at 1 channel ss j some
    ∙ ap (λ b. if b then level channel ss j else counted_level 1 channel ss (j - 1))
    (and-one (beq (level channel ss (j - 1)) (level channel ss j)))
counted-next (suc (suc hold)) few channel ss j some = absurd (omega (arith, few))

pub as-byte : (b : Bool) → bool_byte b ≡ cond b 1 0
as-byte true = refl
as-byte false = refl

pub byte-small : (n : ℕ) (b : Bool) → n ≡ bool_byte b → n ≤ 1
byte-small n true is = omega (arith, is)
byte-small n false is = omega (arith, is)

pub as-none : (a b : Bool) → a ≡ b → bool_byte (not (beq a b)) ≡ 0
as-none true true same = refl
as-none false false same = refl
as-none true false same = absurd (cc)
as-none false true same = absurd (cc)

-- where each level counts at once, the last one counts
pub at-once-counts : (x b i : ℕ) → has_bit (bit_or (bit_and x x) (bit_and b (bit_or x x))) i ≡ has_bit x i
at-once-counts x b i =
    same-bit _ x i i (bit_at_or (bit_and x x) (bit_and b (bit_or x x)) i
    ∙ omega (arith, bit_at_and x x i, bit_at_and b (bit_or x x) i, bit_at_or x x i))

never : (b : Bool) → b ≡ not b → ⊥
never true is = cc
never false is = cc

-- a level that does not count yet is the first other one
earlier-other : (hold : ℕ) → hold ≤ 1 → (channel : Channel) (ss : List ℕ) (j : ℕ) → 1 ≤ j →
    counted_level hold channel ss j ≡ not (level channel ss j) →
    (1 ≤ hold) × (level channel ss (j - 1) ≡ not (level channel ss j))
earlier-other zero few channel ss j some waits =
    absurd (never (level channel ss j) (sym (counted-next 0 few channel ss j some
    ∙ if-self (level channel ss j) (counted_level 0 channel ss (j - 1))) ∙ waits))
earlier-other (suc zero) few channel ss j some waits =
    elim (cases_Bool (beq (level channel ss (j - 1)) (level channel ss j))) [
      | inl same ↦ absurd (never (level channel ss j) (sym (counted-next 1 few channel ss j some
          ∙ ap (λ b. if b then level channel ss j else counted_level 1 channel ss (j - 1)) same) ∙ waits))
      | inr other ↦ (omega arith, other-bool (level channel ss (j - 1)) (level channel ss j) other)
    ]
earlier-other (suc (suc hold)) few channel ss j some waits = absurd (omega (arith, few))

module _ (hold : ℕ) (few : hold ≤ 1) (channel : Channel) (ss more : List ℕ) (long : length more ≡ 64)
    (h : HeldState) (before : IsHeldAfter hold channel h ss) (x : ℕ) (levels : HasLevels x channel more) where
  abbrev all : List ℕ
  all = ss ++ more

  abbrev n : ℕ
  n = length ss

  some : 1 ≤ n
  some = before.some

  level-in : (i : ℕ) → level channel all (n + i) ≡ level channel more i
  level-in i =
      let at : n + i - n ≡ i = omega arith in
      ap channel (get_or-append_right ss more n (n + i) 0 refl (omega arith) ∙ ap (λ k. get_or more k 0) at)

  level-bit : (i : ℕ) → i < 64 → has_bit x i ≡ level channel all (n + i)
  level-bit i inside = levels i inside ∙ sym (level-in i)

  -- the level just before
  pub last-is : not (beq h.level (not (h.others == 0))) ≡ level channel all (n - 1)
  last-is = elim (cases_lt 0 h.others) [
    | inl wait ↦
        (let is : (h.others == 0) ≡ false = grind (arith, wait) in
        let at : n - 1 - 0 ≡ n - 1 = omega arith in
        rw is (turned h.level ∙ (sym (before.others 0 wait) ∙ (ap (level channel ss) at
        ∙ sym (level-front channel ss more (n - 1) (omega (arith, some)))))))
    | inr none ↦
        (let is : h.others ≡ 0 = omega (arith, none) in
        let at : n - 1 - h.others ≡ n - 1 = omega (arith, none) in
        rw is (kept h.level ∙ (sym before.before ∙ (ap (level channel ss) at
        ∙ sym (level-front channel ss more (n - 1) (omega (arith, some)))))))
  ]
    where
      turned : (b : Bool) → not (beq b true) ≡ not b
      turned true = refl
      turned false = refl

      kept : (b : Bool) → not (beq b false) ≡ b
      kept true = refl
      kept false = refl

  -- what the levels are added to
  abbrev pub IsCompared : ℕ → Type 0
  IsCompared p = (i : ℕ) → i < 64 → has_bit p i ≡ compared hold channel all (n + i)

  pub at-once : hold ≡ 0 → IsCompared x
  at-once none i inside = rw none (level-bit i inside)

  pub shifted : 1 ≤ hold → (l : ℕ) → l ≡ cond (not (beq h.level (not (h.others == 0)))) 1 0 →
      IsCompared (bit_or (x * 2 ^ 1 % 2 ^ 64) l)
  shifted one l is zero inside =
      let hold-one : hold ≡ 1 = omega (arith, few, one) in
      let at : n + 0 - 1 ≡ n - 1 = omega arith in
      let small : l ≤ 1 = rw is (as-small (not (beq h.level (not (h.others == 0))))) in
      rw (hold-one, at) (ap (λ b. b == 1) (earlier-first x l small) ∙ (as-bool l _ is ∙ last-is))
  shifted one l is (suc i) inside =
      let hold-one : hold ≡ 1 = omega (arith, few, one) in
      let at : n + suc i - 1 ≡ n + i = omega arith in
      let small : l ≤ 1 = rw is (as-small (not (beq h.level (not (h.others == 0))))) in
      rw (hold-one, at) (ap (λ b. b == 1) (earlier-next x l i small inside) ∙ level-bit i (omega (arith, inside)))

  module _ (p : ℕ) (other : IsCompared p) (c : ℕ) (carried-in : c ≡ cond h.level 1 0) where
    small : c ≤ 1
    small = rw carried-in (as-small h.level)

    carried : (i : ℕ) → i ≤ 64 → carry x p c i ≡ cond (counted_level hold channel all (n + i - 1)) 1 0
    carried zero inside =
        let at : n + 0 - 1 ≡ n - 1 = omega arith in
        rw at (carried-in ∙ ap (λ b. cond b 1 0)
        (before.counts ∙ sym (counted-front channel ss more hold (n - 1) (omega (arith, some)))))
    carried (suc i) inside =
        let at : n + suc i - 1 ≡ n + i = omega arith in
        let one : bit_at x i ≡ cond (level channel all (n + i)) 1 0 =
        bit-is x i ∙ ap (λ b. cond b 1 0) (level-bit i (omega (arith, inside))) in
        let two : bit_at p i ≡ cond (compared hold channel all (n + i)) 1 0 =
        bit-is p i ∙ ap (λ b. cond b 1 0) (other i (omega (arith, inside))) in
        rw (at, one, two, carried i (omega (arith, inside)))
        (majority (level channel all (n + i)) (compared hold channel all (n + i))
        (counted_level hold channel all (n + i - 1))
        ∙ ap (λ b. cond b 1 0) (sym (counted-next hold few channel all (n + i) (omega (arith, some)))))

    abbrev before_word : ℕ
    before_word = bit_xor (bit_xor (((x + p) % 2 ^ 64 + c) % 2 ^ 64) x) p

    abbrev after_word : ℕ
    after_word = bit_or (bit_and x p) (bit_and before_word (bit_or x p))

    pub had-counted : HadCounted before_word hold channel ss more
    had-counted i inside =
        as-bool (bit_at before_word i) _ (carry-bit x p c small i inside ∙ carried i (omega (arith, inside)))

    pub has-counted : HasCounted after_word hold channel ss more
    has-counted i inside =
        let at : n + suc i - 1 ≡ n + i = omega arith in
        as-bool (bit_at after_word i) _
        (next-bit x p c small before_word i (carry-bit x p c small i inside)
        ∙ (carried (suc i) (omega (arith, inside)) ∙ ap (λ j. cond (counted_level hold channel all j) 1 0) at))

    -- how the channel is kept
    count : length (ss ++ more) - 1 ≡ n + 63
    count = omega (arith, length-append ss more, long)

    pub held-block : (a : Bool) (o : ℕ) → a ≡ has_bit after_word 63 → o ≡ cond (not (beq a (has_bit x 63))) 1 0 →
        IsHeldAfter hold channel (record { level = a; others = o }) (ss ++ more)
    held-block a o top waits = cases (beq a (has_bit x 63)) refl
      where
        now : a ≡ counted_level hold channel all (n + 63)
        now = top ∙ has-counted 63 (omega arith)

        here : has_bit x 63 ≡ level channel all (n + 63)
        here = level-bit 63 (omega arith)

        cases : (b : Bool) → beq a (has_bit x 63) ≡ b →
            IsHeldAfter hold channel (record { level = a; others = o }) (ss ++ more)
        cases true same =
            let none : o ≡ 0 = waits ∙ ap (λ b. cond (not b) 1 0) same in
            let at : length (ss ++ more) - 1 - o ≡ n + 63 = omega (arith, count, none) in
            record {
              some = omega (arith, count);
              counts = now ∙ ap (counted_level hold channel all) (sym count);
              within = omega (arith, none);
              others = λ k inside. absurd (omega (arith, inside, none));
              before = ap (level channel all) at ∙ (sym here ∙ sym (same-bool a (has_bit x 63) same));
            }
        cases false waiting =
            let is : a ≡ not (has_bit x 63) = other-bool a (has_bit x 63) waiting in
            let one : o ≡ 1 = waits ∙ ap (λ b. cond (not b) 1 0) waiting in
            let wait = earlier-other hold few channel all (n + 63) (omega (arith, some))
            (sym now ∙ (is ∙ ap not here)) in
            let at : length (ss ++ more) - 1 - o ≡ n + 63 - 1 = omega (arith, count, one) in
            record {
              some = omega (arith, count);
              counts = now ∙ ap (counted_level hold channel all) (sym count);
              within = omega (arith, one, wait.0);
              others = λ k inside.
                  let last-at : length (ss ++ more) - 1 - k ≡ n + 63 = omega (arith, count, inside, one) in
                  ap (level channel all) last-at ∙ (sym here ∙ not-not a (has_bit x 63) is);
              before = ap (level channel all) at ∙ (wait.1 ∙ (ap not (sym here) ∙ sym is));
            }
