-- The level that counts is the last one that has stood.
use Rattle.std.proofs.Common.{◌≡◌, ℕ, zero, suc, ◌-◌, ◌↔◌, ◌&&◌, Bool, true, false, if◌then◌else◌, List}
use Rattle.std.proofs.Common.{refl, sym, ap, ◌∙◌, subst, inl, inr, arith}
use Rattle.std.proofs.lemmas.Bool.{cases_lt}
use Rattle.std.specs.Bool.{beq}
use Rattle.bus_tap.specs.Sampled.{Channel, level, stood, counted_level, HasStood, IsCounted}
use Rattle.bus_tap.proofs.SampledLemmas.{same-bool, stood-all}

both-true : (x y : Bool) → (x && y) ≡ true → (x ≡ true) × (y ≡ true)
both-true true true is = (refl, refl)
both-true true false is = absurd (cc)
both-true false y is = absurd (cc)

module _ (channel : Channel) (ss : List ℕ) where
  stood-is : (i hold : ℕ) → stood channel ss i hold ≡ true → HasStood hold channel ss i (level channel ss i)
  stood-is i zero is j within = ap (level channel ss) (omega (arith, within))
  stood-is i (suc hold) is j within =
      let both = both-true (beq (level channel ss (i - suc hold)) (level channel ss i)) (stood channel ss i hold) is in
      elim (cases_lt j (suc hold)) [
        | inl before ↦ stood-is i hold both.1 j (omega (arith, before))
        | inr last ↦
            (let same : j ≡ suc hold = omega (arith, within, last) in
            rw same (same-bool (level channel ss (i - suc hold)) (level channel ss i) both.0))
      ]

  stood-so : (i hold : ℕ) (l : Bool) → HasStood hold channel ss i l → stood channel ss i hold ≡ true
  stood-so i hold l has =
      stood-all channel ss i hold
      (λ j within. has j within ∙ sym (ap (level channel ss) (omega arith) ∙ has 0 (omega arith)))

  counted-is : (hold i : ℕ) → IsCounted hold channel ss i (counted_level hold channel ss i)
  counted-is hold zero = record {
    at = 0;
    upto = omega arith;
    stood = λ j within. ap (level channel ss) (omega arith);
    last = λ k m past upto. absurd (omega (arith, past, upto));
  }
  counted-is hold (suc i) = cases (counted-is hold i) (stood channel ss (suc i) hold) refl
    where
      cases : IsCounted hold channel ss i (counted_level hold channel ss i) → (b : Bool) →
          stood channel ss (suc i) hold ≡ b → IsCounted hold channel ss (suc i)
          (if b then level channel ss (suc i) else counted_level hold channel ss i)
      cases before true is = record {
        at = suc i;
        upto = omega arith;
        stood = stood-is (suc i) hold is;
        last = λ k m past upto. absurd (omega (arith, past, upto));
      }
      cases before false is =
          record {
            at = before.at;
            upto = omega (arith, before.upto);
            stood = before.stood;
            last = λ k m past upto has. elim (cases_lt k (suc i)) [
              | inl earlier ↦ before.last k m past (omega (arith, earlier)) has
              | inr here ↦
                  (let same : k ≡ suc i = omega (arith, upto, here) in
                  let clash = sym is ∙ stood-so (suc i) hold m (rw same at has) in absurd (cc))
            ];
          }

  one-counted : (hold i : ℕ) (l m : Bool) → IsCounted hold channel ss i l → IsCounted hold channel ss i m → l ≡ m
  one-counted hold i l m first second = elim (cases_lt first.at second.at) [
    | inl before ↦ sym (first.last second.at m before second.upto second.stood)
    | inr other ↦ elim (cases_lt second.at first.at) [
      | inl behind ↦ second.last first.at l behind first.upto first.stood
      | inr here ↦
          (let same : first.at ≡ second.at = omega (arith, other, here) in
          sym (first.stood 0 (omega arith)) ∙ (ap (λ k. level channel ss (k - 0)) same ∙ second.stood 0 (omega arith)))
    ]
  ]

  pub counted-it : (hold i : ℕ) (l : Bool) → (counted_level hold channel ss i ≡ l) ↔ IsCounted hold channel ss i l
  counted-it hold i l = (
    (λ is. subst (IsCounted hold channel ss i) is (counted-is hold i)),
    (λ has. one-counted hold i (counted_level hold channel ss i) l (counted-is hold i) has),
  )
