-- Samples, with one more of them.
use Rattle.std.proofs.Common.{◌≡◌, ℕ, zero, suc, ◌+◌, ◌-◌, ◌<◌, ◌≤◌, ◌==◌, ◌&&◌, not, Bool, true, false, if◌then◌else◌}
use Rattle.std.proofs.Common.{List, [], ◌∷◌, ◌++◌, length, refl, sym, ap, ◌∙◌, arith, inl, inr, Some, None}
use Rattle.std.specs.Bool.{beq}
use Rattle.std.proofs.lemmas.List.{get_or_append_left}
use Rattle.std.proofs.Math.Seq.{get_or-append_seam}
use Rattle.std.proofs.lemmas.Bool.{cases_lt, eqb-true, eqb-false}
use Rattle.bus_line.specs.declared.line.Line.{Line}
use Rattle.bus_line.specs.declared.line.Line.TheVariants.{First, Second}
use Rattle.bus_tap.specs.Sampled.{Channel, clock_of, data_of, level, stood, counted_level, edge, bit_on}
use Rattle.bus_tap.specs.Sampled.{timed, with_sample}
use Rattle.bus_tap.specs.Sampled.{HeldState, IsHeldAfter}
use Rattle.bus_tap.specs.Internal.Held.{next_state}
use Rattle.bus_tap.proofs.EachLemmas.{each-more, length-more}

-- samples that come later change nothing
module _ (channel : Channel) (ss ts : List ℕ) where
  pub level-front : (i : ℕ) → i < length ss → level channel (ss ++ ts) i ≡ level channel ss i
  level-front i inside = ap channel (get_or_append_left ss ts 0 i inside)

  stood-front : (i hold : ℕ) → i < length ss → stood channel (ss ++ ts) i hold ≡ stood channel ss i hold
  stood-front i zero inside = refl
  stood-front i (suc hold) inside =
      rw (level-front i inside, level-front (i - suc hold) (omega (arith, inside)), stood-front i hold inside) refl

  pub counted-front : (hold i : ℕ) → i < length ss
      → counted_level hold channel (ss ++ ts) i ≡ counted_level hold channel ss i
  counted-front hold zero inside = level-front 0 inside
  counted-front hold (suc i) inside =
      rw (
        stood-front (suc i) hold inside,
        level-front (suc i) inside,
        counted-front hold i (omega (arith, inside)),
      ) refl

pub edge-front : (hold : ℕ) (ss ts : List ℕ) (line : Line) (i : ℕ) → i < length ss →
    edge hold (ss ++ ts) line i ≡ edge hold ss line i
edge-front hold ss ts line i inside =
    rw (
      counted-front (clock_of line) ss ts hold i inside,
      counted-front (clock_of line) ss ts hold (i - 1) (omega (arith, inside)),
      counted-front (data_of line) ss ts hold (i - 1) (omega (arith, inside)),
    ) refl

pub edges-front : (hold : ℕ) (ss ts : List ℕ) (i : ℕ) → i < length ss →
    edge hold (ss ++ ts) First i ++ edge hold (ss ++ ts) Second i ≡ edge hold ss First i ++ edge hold ss Second i
edges-front hold ss ts i inside =
    rw (edge-front hold ss ts First i inside, edge-front hold ss ts Second i inside) refl

pub timed-more : (hold : ℕ) (ss : List ℕ) (s : ℕ) → timed hold (ss ++ s ∷ [])
    ≡ timed hold ss ++ with_sample (length ss)
    (edge hold (ss ++ s ∷ []) First (length ss) ++ edge hold (ss ++ s ∷ []) Second (length ss))
timed-more hold ss s =
    each-more (λ i. with_sample i (edge hold (ss ++ s ∷ []) First i ++ edge hold (ss ++ s ∷ []) Second i))
    (λ i. with_sample i (edge hold ss First i ++ edge hold ss Second i)) ss s
    (λ i inside. ap (with_sample i) (edges-front hold ss (s ∷ []) i inside))

-- a level that stood, and one that did not
beq-same : (x y : Bool) → x ≡ y → beq x y ≡ true
beq-same true true same = refl
beq-same false false same = refl
beq-same true false same = absurd (cc)
beq-same false true same = absurd (cc)

beq-other : (x y : Bool) → x ≡ not y → beq x y ≡ false
beq-other true true other = absurd (cc)
beq-other false false other = absurd (cc)
beq-other true false other = refl
beq-other false true other = refl

pub same-bool : (x y : Bool) → beq x y ≡ true → x ≡ y
same-bool true true same = refl
same-bool false false same = refl
same-bool true false same = absurd (cc)
same-bool false true same = absurd (cc)

pub other-bool : (x y : Bool) → beq x y ≡ false → x ≡ not y
other-bool true true other = absurd (cc)
other-bool false false other = absurd (cc)
other-bool true false other = refl
other-bool false true other = refl

pub stood-all : (channel : Channel) (ss : List ℕ) (i hold : ℕ) →
    ((j : ℕ) → j ≤ hold → level channel ss (i - j) ≡ level channel ss i) → stood channel ss i hold ≡ true
stood-all channel ss i zero all = refl
stood-all channel ss i (suc hold) all =
    rw (beq-same _ _ (all (suc hold) (omega arith)))
    (stood-all channel ss i hold (λ j within. all j (omega (arith, within))))

pub stood-not : (channel : Channel) (ss : List ℕ) (i hold j : ℕ) → 1 ≤ j → j ≤ hold →
    level channel ss (i - j) ≡ not (level channel ss i) → stood channel ss i hold ≡ false
stood-not channel ss i zero j some within other = absurd (omega (arith, some, within))
stood-not channel ss i (suc hold) j some within other = elim (cases_lt j (suc hold)) [
  | inl before ↦
      and-none (beq (level channel ss (i - suc hold)) (level channel ss i))
      (stood-not channel ss i hold j some (omega (arith, before)) other)
  | inr last ↦
      (let same : j ≡ suc hold = omega (arith, within, last) in
      rw (beq-other _ _ (rw same at other)) refl)
]
  where
    and-none : (x : Bool) {y : Bool} → y ≡ false → (x && y) ≡ false
    and-none true none = none
    and-none false none = refl

pub not-not : (x y : Bool) → x ≡ not y → y ≡ not x
not-not true true other = absurd (cc)
not-not false false other = absurd (cc)
not-not true false other = refl
not-not false true other = refl

if-both : (b x y z : Bool) → x ≡ z → y ≡ z → (if b then x else y) ≡ z
if-both true x y z one other = one
if-both false x y z one other = other

pub counted-at : (hold : ℕ) (channel : Channel) (ss : List ℕ) (i : ℕ) → 1 ≤ i → counted_level hold channel ss i
    ≡ (if stood channel ss i hold then level channel ss i else counted_level hold channel ss (i - 1))
counted-at hold channel ss zero some = absurd (omega (arith, some))
counted-at hold channel ss (suc i) some =
    let before : suc i - 1 ≡ i = omega arith in
    rw before refl

module _ (hold : ℕ) (channel : Channel) (h : HeldState) (ss : List ℕ) (s : ℕ)
    (after : IsHeldAfter hold channel h ss) where
  held-last : level channel (ss ++ s ∷ []) (length ss) ≡ channel s
  held-last = ap channel (get_or-append_seam ss s [] 0)

  -- the sample `j` before the last one
  held-earlier : (j : ℕ) → 1 ≤ j →
      level channel (ss ++ s ∷ []) (length ss - j) ≡ level channel ss (length ss - 1 - (j - 1))
  held-earlier j some =
      let index : length ss - j ≡ length ss - 1 - (j - 1) = omega (arith, some) in
      level-front channel ss (s ∷ []) (length ss - j) (omega (arith, some, after.some)) ∙ ap (level channel ss) index

  held-at : (i : ℕ) → i ≡ length ss → counted_level hold channel (ss ++ s ∷ []) i
      ≡ (if stood channel (ss ++ s ∷ []) (length ss) hold then channel s else h.level)
  held-at i is =
      ap (counted_level hold channel (ss ++ s ∷ [])) is
      ∙ (counted-at hold channel (ss ++ s ∷ []) (length ss) after.some
      ∙ rw (
        held-last,
        counted-front channel ss (s ∷ []) hold (length ss - 1) (omega (arith, after.some)),
        after.counts,
      ) refl)

  held-count : length (ss ++ s ∷ []) - 1 ≡ length ss
  held-count = omega (arith, length-more ss s)

  -- the level that counts stays, or came back
  held-same : channel s ≡ h.level →
      IsHeldAfter hold channel (record { level = channel s; others = 0 }) (ss ++ s ∷ [])
  held-same same = record {
    some = omega (arith, held-count, after.some);
    counts = sym (held-at _ held-count ∙ if-both (stood channel (ss ++ s ∷ []) (length ss) hold) (channel s) h.level
        (channel s) refl (sym same));
    within = omega arith;
    others = λ k none. absurd (omega (arith, none));
    before = ap (level channel (ss ++ s ∷ [])) (omega (arith, held-count)) ∙ held-last;
  }

  -- the other level has stood long enough, or not
  held-other : channel s ≡ not h.level → (j : ℕ) → 1 ≤ j → j ≤ h.others →
      level channel (ss ++ s ∷ []) (length ss - j) ≡ channel s
  held-other other j some within =
      held-earlier j some ∙ (after.others (j - 1) (omega (arith, some, within)) ∙ sym other)

  held-switch : channel s ≡ not h.level → h.others ≡ hold →
      IsHeldAfter hold channel (record { level = channel s; others = 0 }) (ss ++ s ∷ [])
  held-switch other full =
      let all : stood channel (ss ++ s ∷ []) (length ss) hold ≡ true =
      stood-all channel (ss ++ s ∷ []) (length ss) hold (λ j within. elim (cases_lt j 1) [
        | inl none ↦ ap (level channel (ss ++ s ∷ [])) (omega (arith, none))
        | inr some ↦ held-other other j some (omega (arith, within, full)) ∙ sym held-last
      ]) in
      record {
        some = omega (arith, held-count, after.some);
        counts = sym (held-at _ held-count ∙ rw all refl);
        within = omega arith;
        others = λ k none. absurd (omega (arith, none));
        before = ap (level channel (ss ++ s ∷ [])) (omega (arith, held-count)) ∙ held-last;
      }

  held-wait : channel s ≡ not h.level → h.others < hold →
      IsHeldAfter hold channel (record { level = h.level; others = h.others + 1 }) (ss ++ s ∷ [])
  held-wait other more =
      let ts = ss ++ s ∷ [] in
      let was : level channel ts (length ss - (h.others + 1)) ≡ h.level =
      held-earlier (h.others + 1) (omega arith)
      ∙ (ap (level channel ss) (omega arith) ∙ after.before) in
      let none : stood channel ts (length ss) hold ≡ false =
      stood-not channel ts (length ss) hold (h.others + 1) (omega arith) (omega (arith, more))
      (was ∙ (not-not (channel s) h.level other ∙ ap not (sym held-last))) in
      record {
        some = omega (arith, held-count, after.some);
        counts = sym (held-at _ held-count ∙ rw none refl);
        within = omega (arith, more);
        others = λ k inside. elim (cases_lt k 1) [
          | inl first ↦ ap (level channel ts) (omega (arith, held-count, first)) ∙ (held-last ∙ other)
          | inr some ↦ ap (λ i. level channel ts (i - k)) held-count
              ∙ (held-other other k some (omega (arith, inside)) ∙ other)
        ];
        before = ap (λ i. level channel ts (i - (h.others + 1))) held-count ∙ was;
      }

  pub held-more : IsHeldAfter hold channel (next_state hold h (channel s)) (ss ++ s ∷ [])
  held-more = cases (beq (channel s) h.level) refl (h.others == hold) refl
    where
      cases : (b : Bool) → beq (channel s) h.level ≡ b → (d : Bool) → (h.others == hold) ≡ d →
          IsHeldAfter hold channel
          (if b then record { level = channel s; others = 0 } else
          (if d then record { level = channel s; others = 0 } else
          record { level = h.level; others = h.others + 1 })) (ss ++ s ∷ [])
      cases true same d full = held-same (same-bool (channel s) h.level same)
      cases false other true full = held-switch (other-bool (channel s) h.level other) (eqb-true h.others hold full)
      cases false other false full =
          held-wait (other-bool (channel s) h.level other)
          (omega (arith, after.within, eqb-false h.others hold full))

-- the bit of a line at the last sample
pub bit-if : (line : Line) (b x : Bool) →
    bit_on line (if b then Some x else None) ≡ (if b then (line, x) ∷ [] else [])
bit-if line true x = refl
bit-if line false x = refl

pub edge-is : (hold : ℕ) (line : Line) (ss : List ℕ) (s : ℕ) (old bits new : HeldState) →
    IsHeldAfter hold (clock_of line) old ss → IsHeldAfter hold (data_of line) bits ss →
    IsHeldAfter hold (clock_of line) new (ss ++ s ∷ []) →
    bit_on line (if not old.level && new.level then Some bits.level else None)
    ≡ edge hold (ss ++ s ∷ []) line (length ss)
edge-is hold line ss s old bits new before before_bits after =
    let inside : length ss - 1 < length ss = omega (arith, before.some) in
    let count : length (ss ++ s ∷ []) - 1 ≡ length ss = omega (arith, length-more ss s) in
    bit-if line (not old.level && new.level) bits.level
    ∙ rw (
      before.counts,
      before_bits.counts,
      after.counts,
      count,
      counted-front (clock_of line) ss (s ∷ []) hold (length ss - 1) inside,
      counted-front (data_of line) ss (s ∷ []) hold (length ss - 1) inside,
    ) refl
