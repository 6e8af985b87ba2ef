use Rattle.std.proofs.Common.{◌≡◌, ◌+◌, ◌-◌, ◌≤◌, ◌++◌, [], ◌∷◌, ℕ, Bool, List, refl, sym, ap, ◌∙◌, subst, arith}
use Rattle.std.proofs.Common.{append_assoc}
use Rattle.bus_bits.specs.Bits.{bit_at}
use Rattle.bus_line.specs.declared.line.Line.{Line}
use Rattle.bus_tap.specs.Arrival.{Arrival, arrival_of, arrivals_from}
use Rattle.bus_tap.specs.Rested.{fill, rested, IsRestAfter, RestState}
use Rattle.bus_tap.proofs.ArrivalLemmas.{arrivals-last}
use Rattle.bus_tap.proofs.rest.RestRule.push_some.Goals.{then-bit_at, else-bit_at}
use Rattle.bus_tap.proofs.rest.RestRule.push_some.Goals as goal

-- those that bring no rest, and one more
module _ (bits lines : List ℕ) (from past : ℕ) (begun : from ≤ past) (line : Line) (bit is : Bool)
    (this : (line, bit) ≡ arrival_of (bit_at bits past, bit_at lines past)) (old passed : RestState)
    (most : passed.most ≡ old.most) where
  abbrev front : List Arrival
  front = arrivals_from bits lines from (past - from)

  abbrev whole : List Arrival
  whole = arrivals_from bits lines from (past - from + 1)

  split : whole ≡ front ++ (line, bit) ∷ []
  split =
      let here : from + (past - from) ≡ past = omega (arith, begun) in
      arrivals-last bits lines from (past - from)
      ∙ ap (λ (x : Arrival). front ++ x ∷ [])
      (ap (λ (i : ℕ). arrival_of (bit_at bits i, bit_at lines i)) here ∙ sym this)

  some-rested : (xs : List Arrival) → rested old.most (xs ++ front) ≡ rested old.most xs ++ front →
      rested passed.most ((xs ++ front) ++ (line, bit) ∷ [])
      ≡ rested passed.most (xs ++ front) ++ ((line, bit) ∷ fill is) →
      rested old.most (xs ++ whole) ≡ rested old.most xs ++ (whole ++ fill is)
  some-rested xs quiet one =
      ap (λ (ys : List Arrival). rested old.most (xs ++ ys)) split
      ∙ (ap (rested old.most) (sym (append_assoc xs front ((line, bit) ∷ [])))
      ∙ (rw most at one
      ∙ (ap (λ (ys : List Arrival). ys ++ ((line, bit) ∷ fill is)) quiet
      ∙ (append_assoc (rested old.most xs) front ((line, bit) ∷ fill is)
      ∙ ap (λ (ys : List Arrival). rested old.most xs ++ ys)
      (sym (append_assoc front ((line, bit) ∷ []) (fill is)) ∙ ap (λ (ys : List Arrival). ys ++ fill is)
      (sym split))))))

  some-after : (next : RestState) (xs : List Arrival) → IsRestAfter next ((xs ++ front) ++ (line, bit) ∷ []) →
      IsRestAfter next (xs ++ whole)
  some-after next xs after =
      subst (IsRestAfter next) (append_assoc xs front ((line, bit) ∷ []) ∙ ap (λ (ys : List Arrival). xs ++ ys)
      (sym split))
      after

pub returns-clause-rested : goal.returns-clause-rested
returns-clause-rested c = λ xs after.
    let bits = c.args.bits.now in
    let lines = c.args.lines.now in
    let past = c.quiet_until-past.result in
    let quiet = c.quiet_until-past.ensures.quiet bits xs after in
    some-rested bits lines c.args.from past c.quiet_until-past.ensures.within.0 c.if-bit_at.line c.bit_at-2.result
    c.push-comes.result (elim c.if-bit_at.branch [
      | then-bit_at w ↦
          rw (w.line-is, c.bit_at-2.ensures, sym c.bit_at.ensures ∙ w.if-bit_at.true) refl
      | else-bit_at w ↦
          rw (w.line-is, c.bit_at-2.ensures, sym c.bit_at.ensures ∙ w.if-bit_at.false) refl
    ]) c.args.self.now c.pass.new.self c.pass.ensures.most xs quiet
    (c.push-comes.ensures.rested _ (c.pass.ensures.after xs after quiet))

pub returns-clause-after : goal.returns-clause-after
returns-clause-after c = λ xs after.
    let bits = c.args.bits.now in
    let lines = c.args.lines.now in
    let past = c.quiet_until-past.result in
    let quiet = c.quiet_until-past.ensures.quiet bits xs after in
    some-after bits lines c.args.from past c.quiet_until-past.ensures.within.0 c.if-bit_at.line c.bit_at-2.result
    c.push-comes.result (elim c.if-bit_at.branch [
      | then-bit_at w ↦
          rw (w.line-is, c.bit_at-2.ensures, sym c.bit_at.ensures ∙ w.if-bit_at.true) refl
      | else-bit_at w ↦
          rw (w.line-is, c.bit_at-2.ensures, sym c.bit_at.ensures ∙ w.if-bit_at.false) refl
    ]) c.args.self.now c.pass.new.self c.pass.ensures.most c.push-comes.new.self xs
    (c.push-comes.ensures.after _ (c.pass.ensures.after xs after quiet))
