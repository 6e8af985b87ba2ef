-- What bits tell, in numbers.
use Rattle.std.proofs.Common.{◌≡◌, ℕ, List, Bool, Option, None, refl, subst, sym}
use Rattle.bus_fcs.specs.declared.octet_check.OctetCheck.{OctetCheck}
use Rattle.bus_fcs.specs.Folded.{by_tables}
use Rattle.bus_line.specs.After as line
use Rattle.bus_line.specs.Report.{Report}
use Rattle.bus_line.specs.Words.{LineState}
use Rattle.bus_line.proofs.DecidesLemmas as lines
use Rattle.bus_bits.specs.Bits.{bits_from}
use Rattle.port1_c.specs.declared.report.Port1Report.{Port1Report}
use Rattle.port1_c.specs.Line.{AdvancesLine, report_told}

abbrev pub State : Type 0
State = LineState OctetCheck

pub told-none : (r : Port1Report) (octets : List ℕ) → r.kind ≡ 0 → report_told r octets ≡ None
told-none r octets e = rw e refl

-- the same bits, said in another way
pub advances-same : {a c : State} {bits those : List Bool} (r : Port1Report) → bits ≡ those → AdvancesLine a bits r c
    → AdvancesLine a those r c
advances-same {a} {c} r same = subst (λ (those : List Bool). AdvancesLine a those r c) same

-- no bits
pub advances-no-bits : (os : List ℕ) (at n : ℕ) (d : State) (r : Port1Report) → n ≡ 0 → r.kind ≡ 0
    → AdvancesLine d (bits_from os at n) r d
advances-no-bits os at n d r none kind =
    subst (λ (o : Option Report). line.Advances by_tables d (bits_from os at n) o d) (sym (told-none r d.octets kind))
    (lines.advances-quiet (lines.decides-from os at n none))
