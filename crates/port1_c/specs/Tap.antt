-- What a C caller's memory says of a tap, and of the bits that arrive.
use Rattle.std.specs.Prelude.{◌≡◌, ◌≤◌, ℕ, ◌+◌, ◌/◌, ◌%◌, ◌==◌, not, List, ◌++◌, length, map, drop, replicate}
use Rattle.std.specs.Prelude.{if◌then◌else◌, Option, Some, None}
use Rattle.std.specs.List.{flat_map}
use Rattle.bus_line.specs.Due.{places}
use Rattle.bus_line.specs.declared.line.Line.TheVariants.{First, Second}
use Rattle.bus_tap.specs.Arrival.{Arrival}
use Rattle.bus_tap.specs.Recorded.{record_at}
use Rattle.bus_tap.specs.Sampled.{Timed}
use Rattle.bus_tap.specs.Stopped.{AdvancesStops}
use Rattle.bus_tap.specs.Tapped.{TapState, AdvancesTap, channels}
use Rattle.bus_tap.specs.Words.{AreTapWords, tap_told}
use Rattle.bus_tap.specs.declared.stop.StopRule.{StopRule}
use Rattle.bus_tap.specs.declared.wires.Wire.{Wire}
use Rattle.bus_tap.specs.declared.wires.Wires.{Wires}
use Rattle.port1_c.specs.declared.arrival.Port1Arrival.{Port1Arrival}
use Rattle.port1_c.specs.declared.tap.Port1Tap.{Port1Tap}
use Rattle.port1_c.specs.declared.wires.Port1Wire.{Port1Wire}
use Rattle.port1_c.specs.declared.wires.Port1Wires.{Port1Wires}

abbrev pub wire_told : Port1Wire → Option Wire
wire_told w =
    if w.used == 0 then None else Some (record { number = w.number; is_inverted = not (w.inverted == 0) })

abbrev pub wires_told : Port1Wires → Wires
wires_told w = record {
  first_clock = wire_told w.first_clock;
  first_data = wire_told w.first_data;
  second_clock = wire_told w.second_clock;
  second_data = wire_told w.second_data;
}

-- the memory holds a tap
abbrev pub IsTap : Port1Tap → Type 0
IsTap t = AreTapWords t.words

-- a bit in numbers of c/include/port1.h
abbrev pub coded : Arrival → Port1Arrival
coded (First, bit) = record { line = 1; bit = if bit then 1 else 0 }
coded (Second, bit) = record { line = 2; bit = if bit then 1 else 0 }

-- these arrivals in the first places, and the others as they were
abbrev pub put_over : List Port1Arrival → List Arrival → List Port1Arrival
put_over start xs = map coded xs ++ drop (length xs) start

-- these were put behind the first `count` arrivals
pub record PutsArrivals (count : ℕ) (old : List Port1Arrival) (xs : List Arrival) (new : List Port1Arrival)
    : Type 0 where
  pub long : length new ≡ length old
  pub put : (start : List Port1Arrival) (ys : List Arrival) → count ≡ length ys → length start ≡ length old
      → old ≡ put_over start ys → new ≡ put_over start (ys ++ xs)

-- bits that arrive with these samples, at most `most` of them with the 1s behind stops, were put behind the first
-- `count` arrivals
pub record PutsTimed (most : ℕ) (ts : List Timed) (rule : StopRule) (old : List Port1Arrival) (count : ℕ)
    (stops : StopRule) (new : List Port1Arrival) (past : ℕ) : Type 0 where
  pub xs : List Arrival
  pub few : length xs ≤ most
  pub number : past ≡ count + length xs
  pub put : PutsArrivals count old xs new
  pub rested : AdvancesStops rule ts xs stops

-- with these levels, the bits that arrived were put, `count` of them, with those put in behind stops
pub record HasTapped (from : TapState) (rule : StopRule) (start : List Port1Arrival) (levels : List ℕ) (tap : TapState)
    (stops : StopRule) (arrivals : List Port1Arrival) (count : ℕ) : Type 0 where
  pub ts : List Timed
  pub xs : List Arrival
  pub number : count ≡ length xs
  pub fits : length xs ≤ length start
  pub put : arrivals ≡ put_over start xs
  pub advances : AdvancesTap from levels ts tap
  pub rested : AdvancesStops rule ts xs stops

-- with these levels more, the bits that arrived were put behind those before
abbrev pub TapsMore : TapState → StopRule → List Port1Arrival → ℕ → List ℕ → TapState → StopRule
    → List Port1Arrival → ℕ → Type 0
TapsMore old stops arrivals count more new behind put past =
    (from : TapState) (rule : StopRule) (start : List Port1Arrival) (ls : List ℕ) → length start ≡ length arrivals
    → HasTapped from rule start ls old stops arrivals count → HasTapped from rule start (ls ++ more) new behind put past

-- a call took samples of these levels from a tap to the other
abbrev pub Taps : Port1Tap → List Port1Arrival → List ℕ → Port1Tap → List Port1Arrival → ℕ → Type 0
Taps old start levels new arrivals count =
    HasTapped (tap_told old.words) old.stops start levels (tap_told new.words) new.stops arrivals count

-- samples of so many octets each, from number `at` on
abbrev pub samples_from : ℕ → List ℕ → ℕ → ℕ → List ℕ
samples_from width octets at n = map (λ k. record_at width octets (at + k)) (places n)

-- the levels of a run, whose lowest octet is a sample and the rest how often that stands
abbrev pub run_levels : Wires → ℕ → List ℕ
run_levels wires run = replicate (run / 256) (channels wires (run % 256))

-- the levels of runs, from number `at` on
abbrev pub levels_from : Wires → List ℕ → ℕ → List ℕ
levels_from wires runs at = flat_map (run_levels wires) (drop at runs)

-- the first samples of these runs were taken, all but those that are left
pub record TapsRuns (old : TapState) (rule : StopRule) (start : List Port1Arrival) (wires : Wires) (runs : List ℕ)
    (at : ℕ) (new : TapState) (stops : StopRule) (arrivals : List Port1Arrival) (count : ℕ) (left : List ℕ) (past : ℕ)
    : Type 0 where
  pub levels : List ℕ
  pub taken : levels_from wires runs at ≡ levels ++ levels_from wires left past
  pub tapped : HasTapped old rule start levels new stops arrivals count
