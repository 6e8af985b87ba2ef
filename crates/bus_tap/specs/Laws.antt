-- Laws over the definitions.
use Rattle.std.specs.Prelude.{◌≡◌, ◌↔◌, ℕ, ◌+◌, ◌<◌, ◌≤◌, Bool, true, List, [], ◌∷◌, ◌++◌, replicate}
use Rattle.std.specs.List.{list_all}
use Rattle.bus_line.specs.declared.line.Line.TheVariants.{First, Second}
use Rattle.bus_tap.specs.Arrival.{Arrival, own, arrived, decides}
use Rattle.bus_tap.specs.Rested.{rested, rests, silence}
use Rattle.bus_tap.specs.Sampled.{Channel, IsCounted, counted_level, sampled}

-- the rule of rest puts no bit into the first line, so that all places stay
abbrev pub RestLeavesFirst : Type 0
RestLeavesFirst = (most : ℕ) (xs : List Arrival) → own First (rested most xs) ≡ own First xs

-- where the second line is silent for `most` places, it is at rest
abbrev pub SilenceBringsRest : Type 0
SilenceBringsRest = (most : ℕ) (xs : List Arrival) → 1 ≤ most → most ≤ silence xs →
    rests (own Second (rested most xs)) ≡ true

-- a second line at rest stays there up to its next 0, and nothing is put in
abbrev pub RestStays : Type 0
RestStays = (most : ℕ) (xs ys : List Arrival) → rests (own Second (rested most xs)) ≡ true →
    list_all (λ bit. bit) (own Second ys) ≡ true → rested most (xs ++ ys) ≡ rested most xs ++ ys

-- among arrivals with which the second line is never silent for `most` places, nothing is put in
abbrev pub RestNeedsSilence : Type 0
RestNeedsSilence = (most : ℕ) (xs ys : List Arrival) →
    ((zs ws : List Arrival) → ys ≡ zs ++ ws → silence (xs ++ zs) < most) →
    rested most (xs ++ ys) ≡ rested most xs ++ ys

-- which level counts is computed
abbrev pub CountedIsIt : Type 0
CountedIsIt = (hold : ℕ) (channel : Channel) (ss : List ℕ) (i : ℕ) (l : Bool) →
    (counted_level hold channel ss i ≡ l) ↔ IsCounted hold channel ss i l

-- of samples in a row that are the same, those after the first `hold + 1` bring no bit, and change none that comes
-- later; where each level counts at once, a sample that changes nothing may be left out
abbrev pub SameSamplesBringNothing : Type 0
SameSamplesBringNothing = (hold s : ℕ) (ss ts : List ℕ) →
    sampled hold ((ss ++ replicate (hold + 1) s) ++ s ∷ ts) ≡ sampled hold ((ss ++ replicate (hold + 1) s) ++ ts)

-- an arrival adds what it decides
abbrev pub ArrivalsGrow : Type 0
ArrivalsGrow = (origin longest : ℕ) (xs : List Arrival) (x : Arrival) →
    arrived origin longest (xs ++ x ∷ []) ≡ arrived origin longest xs ++ decides origin longest xs x
