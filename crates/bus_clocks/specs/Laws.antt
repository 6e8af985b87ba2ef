-- Laws over the definitions.
use Rattle.std.specs.Prelude.{◌≡◌, ℕ, Bool, List, [], ◌∷◌, map}
use Rattle.std.specs.List.{flat_map}
use Rattle.bus_fcs.specs.Check.{CheckView}
use Rattle.bus_line.specs.Due.{reports, placed}
use Rattle.bus_line.specs.Report.{moved}
use Rattle.bus_line.specs.LineReport.{merged, of_side}
use Rattle.bus_line.specs.declared.line.Line.TheVariants.{First, Second}
use Rattle.bus_watch.specs.Laws.{IsAnyCut}
use Rattle.bus_tap.specs.Arrival.{Arrival, own, at_places, arrived}
use Rattle.bus_clocks.specs.Clocks.{two_clocks}

-- pairs of bits as they arrive with one clock for both: first a bit of the first line, then one of the second
abbrev pub in_turn : List (Bool × Bool) → List Arrival
in_turn ps = flat_map (λ p. (First, p.0) ∷ (Second, p.1) ∷ []) ps

-- two lines with one clock have the reports of two with a clock each whose bits arrive in turn, at the same places
abbrev pub InTurnIsMerged : Type 0
InTurnIsMerged = (origin longest : ℕ) (ps : List (Bool × Bool)) →
    arrived origin longest (in_turn ps) ≡ merged origin longest ps

-- the reports of either line are those of its own bits; those of the second stand in places
abbrev pub LinesApart : Type 0
LinesApart = (origin longest : ℕ) (xs : List Arrival) →
    (of_side First (arrived origin longest xs) ≡ placed origin longest (own First xs))
    × (of_side Second (arrived origin longest xs)
    ≡ map (λ r. moved origin (at_places xs r)) (reports longest (own Second xs)))

-- however arrivals are cut into calls, what these show is what is seen of the whole list
abbrev pub AnyCutOfArrivals : {C : Type 0} → CheckView C → Type 0
AnyCutOfArrivals view = IsAnyCut (two_clocks view)
