-- What a call that samples a recording did to its reader and its writer.
use Rattle.std.specs.Prelude.{◌≡◌, ℕ, ◌+◌, ◌-◌, ◌<◌, ◌≤◌, ◌⊎◌, List, [], ◌++◌, length, replicate, Option, Result}
use Rattle.std.specs.Prelude.{Ok, Err}
use Rattle.std.specs.Io.KnownBytes.{Appends, IsAtEnd}
use Rattle.bus_bits.specs.Limits.{most_places}
use Rattle.bus_tap.specs.Facts.{AreTapFacts}
use Rattle.bus_tap.specs.declared.facts.TapFacts.{TapFacts}
use Rattle.bus_text.specs.Put.{TextStopsAt}
use Rattle.bus_sample.specs.Recording.{recorded, cut_record, levels, arrivals, size_of}
use Rattle.bus_sample.specs.Marks.{marks_text, whole_text}
use Rattle.bus_sample.specs.declared.options.SampleOptions.{SampleOptions}
use Rattle.bus_sample.specs.declared.fault.SampleFault.{SampleFault}
use Rattle.bus_sample.specs.declared.fault.SampleFault.TheVariants.{Octets, CutOff, TooMany, Read, ReadsLimit}
use Rattle.bus_sample.specs.declared.fault.SampleFault.TheVariants.{Facts, Write}

-- the first of these samples
abbrev pub IsFrontOf : List ℕ → List ℕ → Type 0
IsFrontOf samples front = (rest : List ℕ) × (samples ≡ front ++ rest)

-- these samples, and some behind them that are the same, are more than a recording has
pub record AreTooMany (samples front : List ℕ) : Type 0 where
  pub sample : ℕ
  pub count : ℕ
  pub stands : IsFrontOf samples (front ++ replicate count sample)
  pub more : most_places < length front + count

-- a sample has one to eight octets
abbrev pub HasSize : SampleOptions → Type 0
HasSize o = (1 ≤ size_of o.form) × (size_of o.form ≤ 8)

-- the text of the bits in these samples; that of the whole input ends its last line
abbrev pub IsTextOf : SampleOptions → List ℕ → List ℕ → Type 0
IsTextOf o samples text = (text ≡ marks_text (arrivals o samples)) ⊎ (text ≡ whole_text (arrivals o samples))

-- What the call answered, which made at most `o.reads` reads of the octets xs, leaves its reader with `after`, and led
-- its writer from `start` to `now`.
abbrev pub SamplesBy : SampleOptions → Option (List ℕ) → Option (List ℕ) → Option (List ℕ) → List ℕ
    → Result TapFacts SampleFault → Type 0
SamplesBy o after start now xs (Ok facts) =
    HasSize o × IsAtEnd after × (cut_record o.form xs ≡ [])
    × Appends start now (whole_text (arrivals o (recorded o.form xs)))
    × AreTapFacts o.hold o.jump facts (levels o (recorded o.form xs))
SamplesBy o after start now xs (Err Octets) =
    ((size_of o.form < 1) ⊎ (8 < size_of o.form)) × (xs ≡ []) × Appends start now []
SamplesBy o after start now xs (Err (CutOff octet)) =
    HasSize o × IsAtEnd after × (0 < length (cut_record o.form xs))
    × (octet ≡ length xs - length (cut_record o.form xs))
    × Appends start now (marks_text (arrivals o (recorded o.form xs)))
SamplesBy o after start now xs (Err TooMany) =
    HasSize o × (front : List ℕ) × AreTooMany (recorded o.form xs) front
    × Appends start now (marks_text (arrivals o front))
SamplesBy o after start now xs (Err Read) =
    HasSize o × Appends start now (marks_text (arrivals o (recorded o.form xs)))
SamplesBy o after start now xs (Err Facts) =
    HasSize o × Appends start now (marks_text (arrivals o (recorded o.form xs)))
SamplesBy o after start now xs (Err ReadsLimit) =
    HasSize o × (o.reads ≤ length xs) × Appends start now (marks_text (arrivals o (recorded o.form xs)))
SamplesBy o after start now xs (Err (Write sent)) =
    (front text : List ℕ) × IsFrontOf (recorded o.form xs) front × IsTextOf o front text
    × TextStopsAt start now text sent

-- A read that failed is told exactly where one did, once. So many failed before, and so many by then. A write that
-- failed is told in its place.
abbrev pub FailsAt : ℕ → ℕ → SampleFault → Type 0
FailsAt before now Read = now ≡ before + 1
FailsAt before now (Write sent) = (now ≡ before) ⊎ (now ≡ before + 1)
FailsAt before now fault = now ≡ before

abbrev pub FailsBy : {A : Type 0} → ℕ → ℕ → Result A SampleFault → Type 0
FailsBy before now (Ok _) = now ≡ before
FailsBy before now (Err fault) = FailsAt before now fault
