-- A second line whose clock stops comes to rest: fifteen 1s are put in where it was silent for so many places.
--
-- Stations that drive their clock only while they send leave a piece open where one breaks off, until another sends.
-- With this rule it ends in an abort and an idle line, as on a line that rests at 1 while its clock runs.
use Rattle.std.specs.Prelude.{◌≡◌, ℕ, ◌-◌, ◌≤◌, ◌==◌, ◌&&◌, not, nat_lt, min, Bool, true, false, List, [], ◌∷◌, ◌++◌}
use Rattle.std.specs.Prelude.{length, drop, replicate, fold}
use Rattle.std.specs.List.{list_all}
use Rattle.bus_line.specs.Run.{ones_after}
use Rattle.bus_line.specs.Spelling.{ones}
use Rattle.bus_line.specs.declared.line.Line.TheVariants.{First, Second}
use Rattle.bus_tap.specs.Arrival.{Arrival, own, firsts_before}

-- a line rests where its last fifteen bits are 1s; those before its first bit count as 1s
abbrev pub rests : List Bool → Bool
rests b = list_all (λ bit. bit) (drop (length b) (ones 15 ++ b))

-- how many bits of the first line came after the last of the second
abbrev pub silence : List Arrival → ℕ
silence xs = length (own First xs) - firsts_before (length (own Second xs) - 1) xs

-- with the last of these arrivals the second line was silent for `most` places, and it does not rest
abbrev pub comes_to_rest : ℕ → List Arrival → Bool
comes_to_rest most xs = nat_lt 0 most && ((silence xs == most) && not (rests (own Second xs)))

-- the bits that bring it to rest
abbrev pub fill : Bool → List Arrival
fill true = replicate 15 (Second, true)
fill false = []

-- these arrivals, and fifteen 1s behind those with which the second line comes to rest
abbrev pub with_rest : ℕ → List Arrival → List Arrival
with_rest most xs = xs ++ fill (comes_to_rest most xs)

-- these arrivals, each behind those before it with what was put in among them: a line that rests by such 1s goes on to
-- rest, and none are put in again before its next 0
abbrev pub rested : ℕ → List Arrival → List Arrival
rested most xs = fold (λ before x. with_rest most (before ++ x ∷ [])) [] xs

-- what contracts see of the rule: its silence, the places of it so far, and the 1s at the end of the second line with
-- those put in, up to fifteen
pub record RestState : Type 0 where
  pub most : ℕ
  pub silent : ℕ
  pub ones : ℕ

-- the rule may stand after these arrivals
pub record IsRestAfter (r : RestState) (xs : List Arrival) : Type 0 where
  pub silent : 1 ≤ length (own Second xs) → r.silent ≡ min r.most (silence xs)
  pub ones : r.ones ≡ min 15 (ones_after 15 (own Second (rested r.most xs)))
