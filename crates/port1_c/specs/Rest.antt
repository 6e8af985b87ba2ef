-- What a C caller's memory says of the rule of rest, and of a bit that arrives.
use Rattle.std.specs.Prelude.{◌≡◌, ◌≤◌, ◌==◌, ◌-◌, ◌++◌, not, ℕ, List, length, map, take, drop, if◌then◌else◌}
use Rattle.bus_line.specs.declared.line.Line.TheVariants.{First, Second}
use Rattle.bus_tap.specs.Arrival.{Arrival}
use Rattle.bus_tap.specs.Rested.{RestState, IsRestAfter, rested}
use Rattle.port1_c.specs.Tap.{put_over}
use Rattle.port1_c.specs.declared.arrival.Port1Arrival.{Port1Arrival}
use Rattle.port1_c.specs.declared.rest.Port1Rest.{Port1Rest}

-- a bit of the line of this number, which is 1 or 2
abbrev pub arrival_told : Port1Arrival → Arrival
arrival_told a = (if a.line == 1 then First else Second, not (a.bit == 0))

-- arrivals of a caller's memory, from number `at` on and before number `past`
abbrev pub arrivals_told : List Port1Arrival → ℕ → ℕ → List Arrival
arrivals_told xs at past = map arrival_told (take (past - at) (drop at xs))

-- the rule that the memory holds
abbrev pub rest_told : Port1Rest → RestState
rest_told r = record { most = r.most; silent = r.silent; ones = r.ones }

-- the memory holds a rule
pub record IsRest (r : Port1Rest) : Type 0 where
  pub silent : r.silent ≤ r.most
  pub ones : r.ones ≤ 15

-- these arrivals lead from old to new, and were put with the 1s that bring the second line to rest, `count` of them
pub record PutsRested (old : Port1Rest) (start arrivals : List Port1Arrival) (at past : ℕ) (new : Port1Rest)
    (out : List Port1Arrival) (count : ℕ) : Type 0 where
  pub ys : List Arrival
  pub number : count ≡ length ys
  pub fits : length ys ≤ length start
  pub put : out ≡ put_over start ys
  pub rested : (xs : List Arrival) → IsRestAfter (rest_told old) xs →
      rested old.most (xs ++ arrivals_told arrivals at past) ≡ rested old.most xs ++ ys
  pub after : (xs : List Arrival) → IsRestAfter (rest_told old) xs →
      IsRestAfter (rest_told new) (xs ++ arrivals_told arrivals at past)
