use Rattle.std.proofs.Common.{◌-◌, ℕ, sym, ap, ◌∙◌, subst, arith}
use Rattle.std.proofs.lemmas.Nat.{and_le_l}
use Rattle.bus_line.specs.Internal.Settled.{kept}
use Rattle.bus_line.proofs.SettledKeptLemmas.{AreRaised, kept-all, raised-none, raised-fits, raised-all, raised-out}
use Rattle.bus_line.proofs.decoder.marked.Marked.unmarked.Goals as goal

pub returns-then-marks-eq0-clause-value : goal.returns-then-marks-eq0-clause-value
returns-then-marks-eq0-clause-value c =
    let m = c.args.self in
    sym (kept-all m.bits m.count) ∙ ap (λ (s : ℕ). kept m.bits s m.count) (sym c.if-marks-eq0.true)

pub loop-marks-init : goal.loop-marks-init
loop-marks-init c =
    let m = c.args.self in
    raised-none m.bits m.marks m.count m.small m.marked m.zeros

pub overflow_add-bits : goal.overflow_add-bits
overflow_add-bits c =
    let now = c.loop-marks in
    let fits = raised-fits c.args.self.few now.invariant in
    record { fits = omega (arith, fits.0, and_le_l now.bits (now.marks - 1)) }

pub loop-marks-preserved : goal.loop-marks-preserved
loop-marks-preserved c = raised-out c.args.self.few (omega (arith, c.loop-marks-test.true)) c.loop-marks.invariant

pub invariant_of-result-2 : goal.invariant_of-result-2
invariant_of-result-2 c =
    let m = c.args.self in
    let now = c.loop-marks in
    let left = raised-all (subst (λ (s : ℕ). AreRaised m.bits m.marks m.count now.bits s now.out)
    c.loop-marks-test.false now.invariant) in
    record { few = omega (arith, m.few); small = left.0 }

pub returns-clause-value : goal.returns-clause-value
returns-clause-value c =
    let m = c.args.self in
    let now = c.loop-marks in
    (raised-all (subst (λ (s : ℕ). AreRaised m.bits m.marks m.count now.bits s now.out) c.loop-marks-test.false
    now.invariant)).1
