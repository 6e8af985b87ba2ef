-- What the program does to its reader and its writers, and its status.
use Rattle.std.specs.Prelude.{◌≡◌, ℕ, ◌<◌, ◌⊎◌, true, false, Bool, List, length, take, Option, Result, Ok, Err}
use Rattle.std.specs.Io.KnownBytes.{Appends, Consumes}
use Rattle.bus_text.specs.Put.{TextStopsAt}
use Rattle.bus_tap.specs.declared.facts.TapFacts.{TapFacts}
use Rattle.bus_sample.specs.Facts.{facts_text}
use Rattle.bus_sample.specs.Looks.{LooksBy}
use Rattle.bus_sample.specs.Samples.{FailsBy, SamplesBy}
use Rattle.bus_sample.specs.declared.fault.SampleFault.{SampleFault}
use Rattle.bus_sample.specs.declared.fault.SampleFault.TheVariants.{Facts, Write}
use Rattle.bus_sample_tool.specs.declared.request.Request.{Request}
use Rattle.bus_sample_tool.specs.Faults.{fault_line}
use Rattle.bus_sample_tool.specs.Reports.{Reports, line}

-- The status behind a run, and what came to the writer of faults. Without a fault that are the facts, where they are to
-- be told; where they are cut off, that is reported behind them.
abbrev pub Tells : Bool → Result TapFacts SampleFault → Option (List ℕ) → Option (List ℕ) → Bool → ℕ → Type 0
Tells tells (Err fault) start now failed status = (status ≡ 2) × Reports start now failed (fault_line fault)
Tells false (Ok facts) start now failed status = (status ≡ 0) × (now ≡ start)
Tells true (Ok facts) start now failed status =
    ((status ≡ 0) × Appends start now (facts_text facts))
    ⊎ ((status ≡ 2) × (cut : Option (List ℕ)) × (sent : ℕ) × (sent < length (facts_text facts))
    × Appends start cut (take sent (facts_text facts)) × Reports cut now failed (fault_line Facts))

-- a recording was sampled, as was asked: what the reader had left before and after, how many of its reads had failed,
-- what both writers had and have, and whether that of faults has failed
abbrev pub ExecutesSampling : Request → Option (List ℕ) → Option (List ℕ) → ℕ → ℕ → Option (List ℕ) → Option (List ℕ)
    → Option (List ℕ) → Option (List ℕ) → Bool → ℕ → Type 0
ExecutesSampling request before after failures failing start now told telling failed status =
    (xs : List ℕ) × (answer : Result TapFacts SampleFault) × (looked : Option (List ℕ)) × Consumes before after xs
    × SamplesBy request.options after start now xs answer × LooksBy request.options told looked xs answer
    × FailsBy failures failing answer × Tells request.tells_facts answer looked telling failed status

-- The words ask for a help text, which was written, or cut off and that reported, or have something wrong, which was
-- reported.
abbrev pub RefusesWords : Option (List ℕ) → Option (List ℕ) → Option (List ℕ) → Option (List ℕ) → Bool → ℕ → Type 0
RefusesWords start now told telling failed status =
    ((status ≡ 0) × (help : List ℕ) × Appends start now (line help) × (telling ≡ told))
    ⊎ ((status ≡ 2) × (help : List ℕ) × (sent : ℕ) × TextStopsAt start now (line help) sent
    × Reports told telling failed (fault_line (Write sent)))
    ⊎ ((status ≡ 2) × (now ≡ start) × (wrong : List ℕ) × Reports told telling failed (line wrong))
