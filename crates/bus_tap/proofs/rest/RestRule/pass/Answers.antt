use Rattle.std.proofs.Common.{◌≡◌, ◌+◌, ◌-◌, ◌∷◌, ◌++◌, ◌≤◌, ◌<◌, [], ℕ, Bool, List, true, min, length, refl, sym, ap}
use Rattle.std.proofs.Common.{◌∙◌}
use Rattle.std.proofs.Common.{arith, append_assoc, append-nil}
use Rattle.bus_bits.specs.Bits.{bit_at}
use Rattle.bus_line.specs.Run.{ones_after}
use Rattle.bus_line.specs.declared.line.Line.TheVariants.{Second}
use Rattle.bus_tap.specs.Arrival.{Arrival, arrivals_from, own}
use Rattle.bus_tap.specs.Internal.RestView.{rest_state}
use Rattle.bus_tap.specs.Rested.{IsRestAfter, RestState, rested, silence}
use Rattle.bus_bits.proofs.OctetLemmas.{least}
use Rattle.bus_tap.proofs.ArrivalLemmas.{own-append, arrivals-between, arrivals-last, arrivals-none}
use Rattle.bus_tap.proofs.ArrivalLemmas.{length-arrivals}
use Rattle.bus_tap.proofs.QuietLemmas.{ones-on, silent-firsts, silent-last}
use Rattle.bus_tap.proofs.rest.RestRule.pass.Goals.{then-past-from, else-past-from}
use Rattle.bus_tap.proofs.rest.RestRule.pass.Goals as goal

-- those up to the last bit of the second line, and then those of the first line alone
module _ (most : ℕ) (bits lines : List ℕ) (xs : List Arrival) (from past end : ℕ) (begun : from ≤ past)
    (within : past ≤ end)
    (alone : own Second (arrivals_from bits lines past (end - past)) ≡ []) where
  abbrev front : List Arrival
  front = arrivals_from bits lines from (past - from)

  abbrev behind : List Arrival
  behind = arrivals_from bits lines past (end - past)

  whole : arrivals_from bits lines from (end - from) ≡ front ++ behind
  whole = arrivals-between bits lines from past end begun within

  same-second : own Second (arrivals_from bits lines from (end - from)) ≡ own Second front
  same-second =
      ap (own Second) whole
      ∙ (own-append Second front behind ∙ (ap (λ (b : List Bool). own Second front ++ b) alone
      ∙ append-nil (own Second front)))

  silent-front : from < past → bit_at lines (past - 1) ≡ true → 0 ≡ min most (silence (xs ++ front))
  silent-front some second =
      let n = past - 1 - from in
      let next : n + 1 ≡ past - from = omega (arith, some) in
      let here : from + n ≡ past - 1 = omega (arith, some) in
      let zs = arrivals_from bits lines from n in
      let those : front ≡ zs ++ (Second, bit_at bits (from + n)) ∷ [] =
      ap (arrivals_from bits lines from) (sym next)
      ∙ (arrivals-last bits lines from n ∙ rw (ap (bit_at lines) here ∙ second) refl) in
      rw those (silent-last most xs zs (bit_at bits (from + n)))

  silent-all : (silent now : ℕ) → (1 ≤ length (own Second (xs ++ front)) → silent ≡ min most (silence (xs ++ front))) →
      now ≡ min most (silent + (end - past)) →
      1 ≤ length (own Second (xs ++ arrivals_from bits lines from (end - from))) →
      now ≡ min most (silence (xs ++ arrivals_from bits lines from (end - from)))
  silent-all silent now before is some =
      let all : xs ++ arrivals_from bits lines from (end - from) ≡ (xs ++ front) ++ behind =
      ap (λ (ys : List Arrival). xs ++ ys) whole ∙ sym (append_assoc xs front behind) in
      is
      ∙ (ap (λ (n : ℕ). min most (silent + n)) (sym (length-arrivals bits lines past (end - past)))
      ∙ (silent-firsts most silent (xs ++ front) behind before alone (rw all at some)
      ∙ ap (λ (ys : List Arrival). min most (silence ys)) (sym all)))

pub returns-clause-after : goal.returns-clause-after
returns-clause-after c = λ xs after quiet.
    let bits = c.args.bits.now in
    let lines = c.args.lines.now in
    let from = c.args.from in
    let past = c.past_second-past.result in
    let inside = c.if-past-from.self-inside in
    let front = arrivals_from bits lines from (past - from) in
    let all = arrivals_from bits lines from (c.args.end - from) in
    let old : IsRestAfter (rest_state c.self.inside) xs = rw (c.self.view_is) after in
    let most = ap (λ (r : RestState). r.most) c.self.view_is in
    let begun = c.past_second-past.ensures.within.0 in
    let within = c.past_second-past.ensures.within.1 in
    let alone = c.past_second-past.ensures.behind bits in
    let stands : (inside.most ≡ c.self.inside.most)
    × ((inside.ones ≡ min 15 (ones_after c.self.inside.ones (own Second front)))
    × (1 ≤ length (own Second (xs ++ front)) →
    c.if-past-from.silent ≡ min c.self.inside.most (silence (xs ++ front)))) =
    elim c.if-past-from.branch [
      | then-past-from w ↦
          rw (w.self-inside-is, w.silent-is, w.ones_before-self-inside.ensures) (
            refl,
            (
              refl,
              λ some. silent-front c.self.inside.most bits lines xs from past c.args.end begun within alone
                  w.if-past-from.true (c.past_second-past.ensures.last w.if-past-from.true),
            ),
          )
      | else-past-from w ↦
          (let none : past - from ≡ 0 = omega (arith, w.if-past-from.false) in
          rw (w.self-inside-is, w.silent-is, none, arrivals-none bits lines from, append-nil xs) (
            refl,
            (omega (arith, old.ones), old.silent),
          ))
    ] in
    record {
      silent = silent-all inside.most bits lines xs from past c.args.end begun within alone c.if-past-from.silent _
          (rw (stands.0) stands.1.1)
          (omega (
            arith,
            c.min-self-inside.ensures ∙ least inside.most c.saturating_add.result,
            c.saturating_add.ensures,
          ));
      ones = stands.1.0
          ∙ (ap (λ (b : List Bool). min 15 (ones_after c.self.inside.ones b))
          (sym (same-second inside.most bits lines xs from past c.args.end begun within alone))
          ∙ ones-on c.self.inside.ones (rested inside.most xs) (rested inside.most (xs ++ all)) all
          (rw (stands.0) old.ones) (rw (stands.0, most) quiet));
    }
