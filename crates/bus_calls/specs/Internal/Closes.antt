-- How a text is closed after a fault.
use Rattle.std.specs.Prelude.{◌≡◌, ◌⊎◌, ℕ, List, Option}
use Rattle.std.specs.Io.KnownBytes.{Appends}
use Rattle.bus_text.specs.Put.{TextStopsAt}
use Rattle.bus_text.specs.declared.fault.ToolFault.{ToolFault}
use Rattle.bus_text.specs.declared.fault.ToolFault.TheVariants.{Write}

abbrev pub IsNoWrite : ToolFault → Type 0
IsNoWrite fault = (sent : ℕ) → fault ≡ Write sent → ⊥

-- the text went out and the fault is answered, or the writer was cut off in it
abbrev pub PageStopsWith : Option (List ℕ) → Option (List ℕ) → List ℕ → ToolFault → ToolFault → Type 0
PageStopsWith start now text fault answer =
    ((answer ≡ fault) × Appends start now text)
    ⊎ ((sent : ℕ) × (answer ≡ Write sent) × TextStopsAt start now text sent)
