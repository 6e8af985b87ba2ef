-- Recordings: the samples that octets are.
use Rattle.std.specs.Prelude.{ℕ, ◌*◌, ◌/◌, ◌%◌, List, [], ◌∷◌, length, map, drop, replicate}
use Rattle.std.specs.List.{flat_map}
use Rattle.bus_line.specs.Due.{places}
use Rattle.bus_tap.specs.Arrival.{Arrival}
use Rattle.bus_tap.specs.Recorded.{record_at}
use Rattle.bus_tap.specs.Sampled.{timed}
use Rattle.bus_tap.specs.Stopped.{with_stops}
use Rattle.bus_tap.specs.Tapped.{channels}
use Rattle.bus_sample.specs.declared.options.Form.{Form}
use Rattle.bus_sample.specs.declared.options.Form.TheVariants.{Samples, Runs}
use Rattle.bus_sample.specs.declared.options.SampleOptions.{SampleOptions}

-- how many octets a record has
abbrev pub size_of : Form → ℕ
size_of (Samples octets) = octets
size_of Runs = 8

-- a record is a sample or, of runs, its low octet as often as the rest of it says
abbrev pub run_of : Form → ℕ → List ℕ
run_of (Samples octets) number = number ∷ []
run_of Runs number = replicate (number / 256) (number % 256)

-- the samples of these octets
abbrev pub recorded : Form → List ℕ → List ℕ
recorded form xs =
    flat_map (λ k. run_of form (record_at (size_of form) xs k)) (places (length xs / size_of form))

-- the octets behind the last whole record
abbrev pub cut_record : Form → List ℕ → List ℕ
cut_record form xs = drop (length xs / size_of form * size_of form) xs

-- samples, by the levels of the wires
abbrev pub levels : SampleOptions → List ℕ → List ℕ
levels o samples = map (channels o.wires) samples

-- the bits that arrive in them, with those put in behind stops
abbrev pub arrivals : SampleOptions → List ℕ → List Arrival
arrivals o samples = with_stops o.rest (timed o.hold (levels o samples))
