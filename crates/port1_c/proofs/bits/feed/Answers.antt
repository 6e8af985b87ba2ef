use Rattle.std.proofs.Common.{◌≡◌, ◌-◌, ◌+◌, ℕ, subst, sym, arith}
use Rattle.bus_bits.specs.Bits.{bits_from}
use Rattle.port1_c.specs.Line.{AdvancesLine, held}
use Rattle.port1_c.specs.declared.line.Port1Line.{Port1Line}
use Rattle.port1_c.proofs.DecidesLemmas.{advances-no-bits}
use Rattle.port1_c.proofs.bits.feed.Goals as goal

pub returns-then-at-end-clause-advances : goal.returns-then-at-end-clause-advances
returns-then-at-end-clause-advances c = λ _.
    let at = c.args.at.now in
    let none = c.none.ensures.kind in
    advances-no-bits c.args.octets.now at (at - at) (held c.args.line.now) c.none.result (omega arith) none

pub returns-in_default-clause-advances : goal.returns-in_default-clause-advances
returns-in_default-clause-advances c = λ _.
    let at = c.args.at.now in
    let old = held c.args.line.now in
    let told = c.none-in_default.result in
    subst (λ (l : Port1Line). AdvancesLine old (bits_from c.args.octets.now at (at - at)) told (held l))
    (sym c.in_default.ensures.kept)
    (advances-no-bits c.args.octets.now at (at - at) old told (omega arith) c.none-in_default.ensures.kind)

pub returns-then-at-end-2-clause-advances : goal.returns-then-at-end-2-clause-advances
returns-then-at-end-2-clause-advances c = λ _.
    let at = c.args.at.now in
    let old = held c.args.line.now in
    let told = c.in-Ok.told in
    let count : told.count ≡ at + told.count - at = omega arith in
    subst (λ (k : ℕ). AdvancesLine old (bits_from c.args.octets.now at k) told.report (held c.scan.new.self))
    count c.in-Ok.ensures.advances

pub returns-clause-advances : goal.returns-clause-advances
returns-clause-advances c = λ _.
    let at = c.args.at.now in
    let old = held c.args.line.now in
    let told = c.in-Ok.told in
    let count : told.count ≡ at + told.count - at = omega arith in
    subst (λ (k : ℕ). AdvancesLine old (bits_from c.args.octets.now at k) told.report (held c.scan.new.self))
    count c.in-Ok.ensures.advances
