-- What is known while a recording is read.
use Rattle.std.specs.Prelude.{◌≡◌, ℕ, ◌+◌, ◌-◌, ◌*◌, ◌%◌, ◌<◌, ◌≤◌, List, [], length, Option, Result, Ok, Err}
use Rattle.std.specs.Prelude.{slice_index}
use Rattle.std.specs.Io.KnownBytes.{IsAtEnd}
use Rattle.arrayvec.specs.ArrayVec.{array_vec_len}
use Rattle.bus_bits.specs.Limits.{most_places}
use Rattle.bus_tap.specs.Arrival.{Arrival}
use Rattle.bus_tap.specs.Sampled.{Timed, timed}
use Rattle.bus_tap.specs.Stopped.{IsStopAfter, with_stops}
use Rattle.bus_tap.specs.Tapped.{IsTapAfter, channels}
use Rattle.bus_text.specs.Pages.{Pages}
use Rattle.bus_text.specs.Put.{TextStopsAt}
use Rattle.bus_sample.specs.Recording.{recorded, cut_record, levels, arrivals, size_of}
use Rattle.bus_sample.specs.Marks.{marks_text}
use Rattle.bus_sample.specs.Samples.{IsFrontOf, AreTooMany, HasSize}
use Rattle.bus_sample.specs.declared.marks.Marks.{Marks}
use Rattle.bus_sample.specs.declared.options.SampleOptions.{SampleOptions}
use Rattle.bus_sample.specs.declared.reader.SampleRun.{SampleRun}
use Rattle.bus_sample.specs.declared.fault.SampleFault.{SampleFault}
use Rattle.bus_sample.specs.declared.fault.SampleFault.TheVariants.{CutOff, TooMany, Read, ReadsLimit}
use Rattle.bus_sample.specs.declared.fault.SampleFault.TheVariants.{Facts, Write}

-- the text of these arrivals was put on the page, or written
pub record HasText (start now : Option (List ℕ)) (marks : Marks) (xs : List Arrival) : Type 0 where
  pub page : Pages start now marks.page.text marks.page.written (marks_text xs)
  pub column : marks.column ≡ length xs % 64

-- so was that of these bits, with what was put in behind stops
pub record HasMarked (start now : Option (List ℕ)) (marks : Marks) (most : ℕ) (ts : List Timed) : Type 0 where
  pub page : Pages start now marks.page.text marks.page.written (marks_text (with_stops most ts))
  pub column : marks.column ≡ length (with_stops most ts) % 64
  pub stops : IsStopAfter marks.stops ts
  pub given : marks.stops.most ≡ most

-- how long the text is
abbrev pub length_of : Marks → ℕ
length_of marks = marks.page.written + array_vec_len marks.page.text

-- the bits that samples bring
abbrev pub timed_levels : SampleOptions → List ℕ → List Timed
timed_levels o samples = timed o.hold (levels o samples)

-- these samples were taken, and their text was put
pub record RunAfter (start now : Option (List ℕ)) (run : SampleRun) (samples : List ℕ) : Type 0 where
  pub tap : IsTapAfter run.tap (levels run.options samples)
  pub marks : HasMarked start now run.marks run.options.rest (timed_levels run.options samples)

-- the text is no longer than its samples allow, and there is room for an octet more of the open record
pub record IsSoundRun (run : SampleRun) : Type 0 where
  pub given : (run.tap.hold ≡ run.options.hold) × (run.tap.jump ≡ run.options.jump)
  pub size : HasSize run.options
  pub levels : (sample : ℕ) → sample < 256 → slice_index run.levels sample ≡ channels run.options.wires sample
  pub samples : run.tap.samples ≤ most_places
  pub few : length_of run.marks ≤ 64 * run.tap.samples
  pub part : array_vec_len run.part < size_of run.options.form

-- these octets were read
pub record HasRead (start now : Option (List ℕ)) (run : SampleRun) (xs : List ℕ) : Type 0 where
  pub taken : RunAfter start now run (recorded run.options.form xs)
  pub part : run.part.items ≡ cut_record run.options.form xs

-- this fault stopped it among these samples
abbrev pub StopsWith : Option (List ℕ) → Option (List ℕ) → SampleRun → List ℕ → SampleFault → Type 0
StopsWith start now run samples (Write sent) =
    (front : List ℕ) × IsFrontOf samples front × TextStopsAt start now (marks_text (arrivals run.options front)) sent
StopsWith start now run samples TooMany =
    (front : List ℕ) × AreTooMany samples front
    × HasMarked start now run.marks run.options.rest (timed_levels run.options front)
StopsWith start now run samples _ = ⊥

-- the open record stays
abbrev pub IsSameRecord : SampleRun → SampleRun → Type 0
IsSameRecord old new = (new.part ≡ old.part) × (new.options ≡ old.options)

-- how the reading of these octets ended, whose reader has `after` left
abbrev pub RecordingStopsWith : Option (List ℕ) → Option (List ℕ) → Option (List ℕ) → SampleRun → List ℕ
    → Result (Unit {0}) SampleFault → Type 0
RecordingStopsWith after start now run xs (Ok _) =
    IsAtEnd after × (cut_record run.options.form xs ≡ []) × HasRead start now run xs
RecordingStopsWith after start now run xs (Err (CutOff octet)) =
    IsAtEnd after × (0 < length (cut_record run.options.form xs))
    × (octet ≡ length xs - length (cut_record run.options.form xs)) × HasRead start now run xs
RecordingStopsWith after start now run xs (Err Read) = HasRead start now run xs
RecordingStopsWith after start now run xs (Err Facts) = HasRead start now run xs
RecordingStopsWith after start now run xs (Err ReadsLimit) = (run.options.reads ≤ length xs) × HasRead start now run xs
RecordingStopsWith after start now run xs (Err fault) = StopsWith start now run (recorded run.options.form xs) fault
