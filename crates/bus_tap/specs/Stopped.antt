-- Bits behind a stop of their clock: fifteen 1s of their line come before them.
--
-- A sender that drives its clock only while it sends stops it some bits behind a frame, and begins the next one by a
-- flag. A clock that stood still for longer than within any frame stands for a line at rest.
use Rattle.std.specs.Prelude.{◌≡◌, ℕ, ◌+◌, ◌-◌, ◌^◌, ◌&&◌, nat_lt, nat_le, min, true, false, Bool, List, []}
use Rattle.std.specs.Prelude.{◌∷◌, ◌++◌, length, take, drop, replicate, slice_index, if◌then◌else◌}
use Rattle.std.specs.List.{flat_map}
use Rattle.bus_line.specs.Due.{places}
use Rattle.bus_line.specs.declared.line.Line.{Line}
use Rattle.bus_line.specs.declared.line.Line.TheVariants.{First, Second}
use Rattle.bus_tap.specs.Arrival.{Arrival}
use Rattle.bus_tap.specs.Sampled.{Timed}
use Rattle.bus_tap.specs.declared.stop.StopRule.{StopRule}

-- the samples with which the bits of a line arrive
abbrev pub samples_of : Line → List Timed → List ℕ
samples_of First [] = []
samples_of Second [] = []
samples_of First ((i, (First, bit)) ∷ ts) = i ∷ samples_of First ts
samples_of First ((i, (Second, bit)) ∷ ts) = samples_of First ts
samples_of Second ((i, (First, bit)) ∷ ts) = samples_of Second ts
samples_of Second ((i, (Second, bit)) ∷ ts) = i ∷ samples_of Second ts

-- sample `i` comes more than `most` behind the last of these; with 0 it never does
abbrev pub is_long_after : ℕ → List ℕ → ℕ → Bool
is_long_after most es i = nat_lt 0 most && (nat_le 1 (length es) && nat_lt most (i - slice_index es (length es - 1)))

-- fifteen 1s of a line, or nothing
abbrev pub stop_fill : Bool → Line → List Arrival
stop_fill true line = replicate 15 (line, true)
stop_fill false line = []

-- a bit that comes behind these, and the 1s before it
abbrev pub behind : ℕ → List Timed → Timed → List Arrival
behind most ts t = stop_fill (is_long_after most (samples_of t.1.0 ts) t.0) t.1.0 ++ t.1 ∷ []

-- bits with the samples that they arrive with, and fifteen 1s before each that comes behind a stop
abbrev pub with_stops : ℕ → List Timed → List Arrival
with_stops most ts = flat_map (λ k. flat_map (behind most (take k ts)) (take 1 (drop k ts))) (places (length ts))

-- the last sample with which a bit behind these comes behind no stop
abbrev pub on_time_until : ℕ → List ℕ → ℕ
on_time_until most es =
    if nat_lt 0 most && nat_le 1 (length es) then min (slice_index es (length es - 1) + most) (2 ^ 64 - 1)
    else 2 ^ 64 - 1

-- the rule may stand after these bits
pub record IsStopAfter (r : StopRule) (ts : List Timed) : Type 0 where
  pub first : r.first ≡ on_time_until r.most (samples_of First ts)
  pub second : r.second ≡ on_time_until r.most (samples_of Second ts)

-- with more bits these arrive
pub record AdvancesStops (old : StopRule) (more : List Timed) (xs : List Arrival) (new : StopRule) : Type 0 where
  pub most : new.most ≡ old.most
  pub after : (ts : List Timed) → IsStopAfter old ts → IsStopAfter new (ts ++ more)
  pub stops : (ts : List Timed) → IsStopAfter old ts
      → with_stops old.most (ts ++ more) ≡ with_stops old.most ts ++ xs
