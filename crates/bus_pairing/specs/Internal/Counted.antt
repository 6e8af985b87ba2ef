-- One verdict more in a tally.
use Rattle.std.specs.Prelude.{◌≡◌, ℕ, ◌+◌, ◌≤◌, ◌==◌, List, Option, Some, None, slice_get, if◌then◌else◌}
use Rattle.bus_pairing.specs.declared.outcome.Outcome.{Outcome}
use Rattle.bus_pairing.specs.declared.outcome.Outcome.TheVariants.{Answered, Late, Missing, Spoilt}
use Rattle.bus_pairing.specs.declared.counts.Counts.{Counts}
use Rattle.bus_pairing.specs.declared.verdict.Verdict.{Verdict}

abbrev pub one_more : Outcome → Counts → Counts
one_more Answered c = record c { answered = c.answered + 1 }
one_more Missing c = record c { missing = c.missing + 1 }
one_more Spoilt c = record c { spoilt = c.spoilt + 1 }
one_more Late c = record c { late = c.late + 1 }

-- the counts of a station after a verdict, or none
abbrev pub counted : ℕ → Option Verdict → Counts → Counts
counted station None c = c
counted station (Some v) c = if v.station == station then one_more v.outcome c else c

-- of each station
abbrev pub Counted : Option Verdict → List Counts → List Counts → Type 0
Counted verdict old new =
    (station : ℕ) (c : Counts) → slice_get old station ≡ Some c
    → slice_get new station ≡ Some (counted station verdict c)

-- no count of a station is above this
abbrev pub AreAtMost : ℕ → List Counts → Type 0
AreAtMost most tally =
    (station : ℕ) (c : Counts) → slice_get tally station ≡ Some c
    → (c.answered ≤ most) × (c.missing ≤ most) × (c.spoilt ≤ most) × (c.late ≤ most)
