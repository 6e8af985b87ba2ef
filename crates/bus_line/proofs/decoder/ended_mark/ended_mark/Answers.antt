use Rattle.std.proofs.Common.{◌≡◌, ◌<◌, ◌≤◌, ◌%◌, ◌+◌, ◌*◌, arith, Bool, true, ℕ, cond, inl, inr}
use Rattle.std.proofs.lemmas.Bool.{false_from_ne_true, true_from_ne_false}
use Rattle.bus_line.proofs.WordLemmas.{looks}
use Rattle.bus_line.proofs.decoder.ended_mark.ended_mark.Goals as goal

-- the newest bit, by the last bits
is-one : (h n : ℕ) (bit : Bool) → h ≡ cond bit 1 0 * 32768 + n → n < 32768 → 32768 ≤ h → bit ≡ true
is-one h n bit e l m = true_from_ne_false bit (λ none. omega (arith, rw none at e, l, m))

pub returns-then-last_bits-eq254-clause-found : goal.returns-then-last_bits-eq254-clause-found
returns-then-last_bits-eq254-clause-found c = λ b bit h n.
    let k = looks _ b bit h in (
      is-one c.args.last_bits (c.args.last_bits % 32768) bit k.newest (omega arith)
          (omega (arith, c.if-last_bits-eq254.true)),
      k.six (omega (arith, c.if-last_bits-eq254.true)),
    )

pub returns-then-last_bits-eq65534-clause-found : goal.returns-then-last_bits-eq65534-clause-found
returns-then-last_bits-eq65534-clause-found c = λ b bit h n.
    let k = looks _ b bit h in (
      is-one c.args.last_bits (c.args.last_bits % 32768) bit k.newest (omega arith)
          (omega (arith, c.if-last_bits-eq65534.true)),
      k.fourteen (omega (arith, c.if-last_bits-eq65534.true)),
    )

pub returns-then-count-gt6-clause-found : goal.returns-then-count-gt6-clause-found
returns-then-count-gt6-clause-found c = λ b bit h n.
    let k = looks _ b bit h in (
      false_from_ne_true bit (λ one. omega (arith, rw one at k.newest, c.if-last_bits-eq126.true)),
      k.six (omega (arith, c.if-last_bits-eq126.true)),
      c.if-count-gt6.true,
    )

pub returns-clause-found : goal.returns-clause-found
returns-clause-found c = λ b bit h n. let k = looks _ b bit h in (
  (λ z six more. elim c.else-last_bits-eq126.either [
    | inl w ↦ omega (arith, w.1, more)
    | inr w ↦ w (omega (arith, rw z at k.newest, k.is_six six))
  ]),
  (λ o. (
    (λ six. c.if-last_bits-eq254.false (omega (arith, rw o at k.newest, k.is_six six))),
    (λ more. c.if-last_bits-eq65534.false (omega (arith, rw o at k.newest, k.is_fourteen more))),
  )),
)
