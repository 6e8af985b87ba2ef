-- What is told while a recording is read.
use Rattle.std.specs.Prelude.{◌≡◌, ℕ, ◌<◌, ◌≤◌, ◌⊎◌, true, false, List, [], ◌∷◌, ◌++◌, length, take, Option, Result}
use Rattle.std.specs.Prelude.{Ok, Err}
use Rattle.std.specs.List.{flat_map}
use Rattle.std.specs.Io.KnownBytes.{Appends}
use Rattle.bus_tap.specs.Facts.{AreTapFacts}
use Rattle.bus_tap.specs.declared.facts.TapFacts.{TapFacts}
use Rattle.bus_sample.specs.Facts.{facts_text}
use Rattle.bus_sample.specs.Recording.{recorded, levels}
use Rattle.bus_sample.specs.declared.options.SampleOptions.{SampleOptions}
use Rattle.bus_sample.specs.declared.fault.SampleFault.{SampleFault}
use Rattle.bus_sample.specs.declared.fault.SampleFault.TheVariants.{Facts, TooMany, Write}

-- so many octets a read gives at most
abbrev pub most_read : ℕ
most_read = 65536

-- where looks are asked for, the facts after each of the reads that gave these octets; else nothing
pub data AreLooks (o : SampleOptions) : List ℕ → List TapFacts → Type 0 where
  before : AreLooks o [] []
  quiet : (xs ys : List ℕ) → o.looks ≡ false → AreLooks o xs [] → AreLooks o (xs ++ ys) []
  after : (xs ys : List ℕ) (fs : List TapFacts) (f : TapFacts) → o.looks ≡ true → 1 ≤ length ys
      → length ys ≤ most_read → AreLooks o xs fs
      → AreTapFacts o.hold o.jump f (levels o (recorded o.form (xs ++ ys))) → AreLooks o (xs ++ ys) (fs ++ f ∷ [])

-- the second writer got the text of the looks at these octets
abbrev pub HasTold : SampleOptions → Option (List ℕ) → Option (List ℕ) → List ℕ → Type 0
HasTold o start now xs = (fs : List TapFacts) × AreLooks o xs fs × Appends start now (flat_map facts_text fs)

-- or it got less of it
abbrev pub IsToldInPart : SampleOptions → Option (List ℕ) → Option (List ℕ) → List ℕ → Type 0
IsToldInPart o start now xs =
    (fs : List TapFacts) × (sent : ℕ) × AreLooks o xs fs × (sent < length (flat_map facts_text fs))
    × Appends start now (take sent (flat_map facts_text fs))

-- the octets without those of the last read, or all
abbrev pub IsUpToLastRead : List ℕ → List ℕ → Type 0
IsUpToLastRead xs front = (rest : List ℕ) × (xs ≡ front ++ rest) × (length rest ≤ most_read)

-- what was told before a fault while these octets were read: the looks at all reads, without that of too many samples
abbrev pub LooksBefore : SampleOptions → Option (List ℕ) → Option (List ℕ) → List ℕ → SampleFault → Type 0
LooksBefore o start now xs Facts = IsToldInPart o start now xs
LooksBefore o start now xs (Write sent) =
    (front : List ℕ) × IsUpToLastRead xs front × (HasTold o start now front ⊎ IsToldInPart o start now front)
LooksBefore o start now xs TooMany = (front : List ℕ) × IsUpToLastRead xs front × HasTold o start now front
LooksBefore o start now xs fault = HasTold o start now xs

-- what a call told that read these octets and answered so
abbrev pub LooksBy : {A : Type 0} → SampleOptions → Option (List ℕ) → Option (List ℕ) → List ℕ → Result A SampleFault
    → Type 0
LooksBy o start now xs (Ok _) = HasTold o start now xs
LooksBy o start now xs (Err fault) = LooksBefore o start now xs fault
