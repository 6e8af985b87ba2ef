use Rattle.std.proofs.Common.{◌≡◌, ◌+◌, ◌-◌, ◌/◌, ◌++◌, ℕ, List, arith}
use Rattle.bus_tap.specs.Arrival.{Arrival, arrivals_from}
use Rattle.bus_tap.specs.Internal.Quiet.{IsQuietFor, Passes}
use Rattle.bus_tap.proofs.ArrivalLemmas.{arrivals-none}
use Rattle.bus_tap.proofs.QuietLemmas.{passes-busy, passes-none, passes-octet, passes-on}
use Rattle.bus_tap.proofs.rest.Quiet.pass_octets.Goals.{then-lines-self-eq0, else-lines-self-eq0}
use Rattle.bus_tap.proofs.rest.Quiet.pass_octets.Goals as goal

-- before the first octet
begun : (most left : ℕ) (bits lines : List ℕ) (at : ℕ) (xs : List Arrival) → IsQuietFor most xs left →
    Passes most xs (arrivals_from bits lines at (at - at)) left
begun most left bits lines at xs quiet =
    let none : at - at ≡ 0 = omega arith in
    rw (none, arrivals-none bits lines at) (passes-none most left xs quiet)

pub returns-then-self-ne0-clause-quiet : goal.returns-then-self-ne0-clause-quiet
returns-then-self-ne0-clause-quiet c = λ bits xs quiet.
    begun c.args.most c.args.self.now.left bits c.args.lines.now c.args.self.now.at xs quiet

pub loop-self-init : goal.loop-self-init
loop-self-init c = record {
  within = omega (arith, c.requires.some);
  whole = omega (arith, c.if-self-ne0.false);
  passes = λ bits xs quiet.
      begun c.args.most c.args.self.now.left bits c.args.lines.now c.args.self.now.at xs quiet;
}

pub loop-self-preserved : goal.loop-self-preserved
loop-self-preserved c =
    let most = c.args.most in
    let lines = c.args.lines.now in
    let from = c.args.self.now.at in
    let at = c.loop-self.self.at in
    let left = c.loop-self.self.left in
    let before = c.loop-self.invariant in
    record {
      within = omega (arith, before.within, c.loop-self-test.true);
      whole = omega (arith, before.whole);
      passes = λ bits xs quiet.
          let front = arrivals_from bits lines from (at - from) in
          let those = before.passes bits xs quiet in
          let count : at + 8 - at ≡ 8 = omega arith in
          let next : Passes most (xs ++ front) (arrivals_from bits lines at (at + 8 - at)) c.if-lines-self-eq0.self =
          rw count (elim c.if-lines-self-eq0.branch [
            | then-lines-self-eq0 w ↦
                rw (w.self-is) (passes-octet most left bits lines (xs ++ front) at c.if-self-ge8.true those.quiet)
            | else-lines-self-eq0 w ↦
                rw (w.self-is, w.saturating_sub-self.ensures)
                (passes-busy most left bits lines (xs ++ front) at before.whole (omega (
                  arith,
                  c.type_inv.lines
                      (at / 8),
                )) w.if-lines-self-eq0.false
                c.if-self-ge8.true those.quiet)
          ]) in
          passes-on most left c.if-lines-self-eq0.self bits lines from at (at + 8) xs before.within.0 (omega arith)
          those next;
    }
