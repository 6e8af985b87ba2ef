use Rattle.std.proofs.Common.{◌≡◌, ◌+◌, ◌-◌, ◌++◌, [], ◌∷◌, ℕ, List, inl, refl, ap, ◌∙◌, subst, sym, arith}
use Rattle.bus_bits.specs.Bits.{bit_at}
use Rattle.bus_tap.specs.Arrival.{Arrival, arrival_of, arrivals_from}
use Rattle.bus_tap.specs.Internal.Quiet.{IsQuietFor, Passes}
use Rattle.bus_tap.specs.Rested.{RestState}
use Rattle.bus_tap.proofs.ArrivalLemmas.{arrivals-first, arrivals-none}
use Rattle.bus_tap.proofs.QuietLemmas.{passes-none, passes-on, quiet-many, rest-alone, start-quiet}
use Rattle.bus_tap.proofs.rest.RestRule.quiet_until.Goals.{then-self-eq-IDLE_ONES, else-self-eq-IDLE_ONES}
use Rattle.bus_tap.proofs.rest.RestRule.quiet_until.Goals as goal

pub returns-then-self-eq0-clause-quiet : goal.returns-then-self-eq0-clause-quiet
returns-then-self-eq0-clause-quiet c = λ bits xs after.
    let most = ap (λ (r : RestState). r.most) c.self.view_is in
    let silent = ap (λ (r : RestState). r.silent) c.self.view_is in
    quiet-many c.args.self.now xs _ after (omega (arith, most, silent, c.self.invariant.silent))
    (inl (omega (arith, most, c.if-self-eq0.true)))

pub loop-quiet-init : goal.loop-quiet-init
loop-quiet-init c =
    let now = c.args.self.now in
    let lines = c.args.lines.now in
    let from = c.args.from in
    let most = ap (λ (r : RestState). r.most) c.self.view_is in
    let silent = ap (λ (r : RestState). r.silent) c.self.view_is in
    let ones = ap (λ (r : RestState). r.ones) c.self.view_is in
    elim c.if-self-eq-IDLE_ONES.branch [
      | then-self-eq-IDLE_ONES w ↦
          rw (w.quiet-is) (record {
            within = w.next_second.ensures.within;
            passes = λ bits xs after.
                rest-alone now xs _ after (omega (arith, ones, w.if-self-eq-IDLE_ONES.true))
                (w.next_second.ensures.alone bits);
          })
      | else-self-eq-IDLE_ONES w ↦
          rw (w.quiet-is, c.saturating_sub.ensures) (record {
            within = omega (arith, c.requires.some);
            passes = λ bits xs after.
                let none : from - from ≡ 0 = omega arith in
                let left : c.self.inside.most - c.self.inside.silent - 1 ≡ now.most - now.silent - 1 =
                omega (arith, most, silent) in
                rw (none, arrivals-none bits lines from, left)
                (passes-none now.most (now.most - now.silent - 1) xs
                (start-quiet now xs after (omega (arith, most, silent, c.self.invariant.silent))
                (omega (arith, most, c.if-self-eq0.false))));
          })
    ]

-- by the rule as it is seen
on : {m most l n : ℕ} {zs ys : List Arrival} → m ≡ most → (IsQuietFor m zs l → Passes m zs ys n) →
    IsQuietFor most zs l → Passes most zs ys n
on {l = l} {n = n} {zs = zs} {ys = ys} same passes quiet =
    subst (λ (k : ℕ). Passes k zs ys n) same (passes (subst (λ (k : ℕ). IsQuietFor k zs l) (sym same) quiet))

pub returns-then-at-end-clause-quiet : goal.returns-then-at-end-clause-quiet
returns-then-at-end-clause-quiet c = λ bits xs after.
    let most = ap (λ (r : RestState). r.most) c.self.view_is in
    let before = c.loop-quiet.invariant in
    let at = c.loop-quiet.quiet.at in
    let those = before.passes bits xs after in
    let front = arrivals_from bits c.args.lines.now c.args.from (at - c.args.from) in
    (passes-on c.args.self.now.most c.loop-quiet.quiet.left c.pass_octets.new.self.left bits c.args.lines.now
    c.args.from
    at c.pass_octets.new.self.at xs before.within.0 c.pass_octets.ensures.within.0 those
    (on most (c.pass_octets.ensures.quiet bits (xs ++ front)) those.quiet)).same

pub loop-quiet-preserved : goal.loop-quiet-preserved
loop-quiet-preserved c =
    let now = c.args.self.now in
    let lines = c.args.lines.now in
    let from = c.args.from in
    let most = ap (λ (r : RestState). r.most) c.self.view_is in
    let before = c.loop-quiet.invariant in
    let within = c.pass_octets.ensures.within in
    let at = c.pass_octets.new.self.at in
    let next = c.pass_one.ensures.next c.if-not-pass_one.false in
    rw next (record {
      within = omega (arith, before.within, within, c.if-at-end.false);
      passes = λ bits xs after.
          let first = before.passes bits xs after in
          let front = arrivals_from bits lines from (at - from) in
          let octets = passes-on now.most c.loop-quiet.quiet.left c.pass_octets.new.self.left bits lines from
          c.loop-quiet.quiet.at at xs before.within.0 within.0 first
          (on most (c.pass_octets.ensures.quiet bits _) first.quiet) in
          let count : at + 1 - at ≡ 1 = omega arith in
          let one : arrivals_from bits lines at (at + 1 - at) ≡ arrival_of (bit_at bits at, c.bit_at.result) ∷ [] =
          ap (arrivals_from bits lines at) count
          ∙ (arrivals-first bits lines at 0
          ∙ rw (c.bit_at.ensures, arrivals-none bits lines (at + 1)) refl) in
          passes-on now.most c.pass_octets.new.self.left c.pass_one.new.self.left bits lines from at (at + 1) xs
          (omega (arith, before.within, within)) (omega arith) octets
          (rw one (on most (λ quiet. c.pass_one.ensures.quiet (bit_at bits at) (xs ++ front) quiet
          c.if-not-pass_one.false) octets.quiet));
    })
