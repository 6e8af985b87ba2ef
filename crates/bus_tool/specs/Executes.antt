-- What the program's calls do to reader and writer, and the status that each ends with.
use Rattle.std.specs.Prelude.{◌≡◌, ◌≤◌, ◌↔◌, ℕ, List, Option, Result, Ok, Err}
use Rattle.std.specs.Option.{option_map}
use Rattle.std.specs.Io.KnownBytes.{Consumes}
use Rattle.bus_text.specs.Show.{Shows}
use Rattle.bus_text.specs.declared.summary.Summary.{Summary}
use Rattle.bus_text.specs.declared.fault.ToolFault.{ToolFault}
use Rattle.bus_calls.specs.Lists.{Lists}
use Rattle.bus_calls.specs.Checks.{Checks}
use Rattle.bus_calls.specs.Encodes.{Encodes}
use Rattle.bus_arguments.specs.declared.request.Request.{Request}
use Rattle.bus_arguments.specs.declared.request.Request.TheVariants as request

-- nothing was damaged, overlong, missing, spoilt or late
abbrev pub IsFaultless : Summary → Type 0
IsFaultless s = (s.damaged ≡ 0) × (s.overlong ≡ 0) × (s.missing ≡ 0) × (s.spoilt ≡ 0) × (s.late ≡ 0)

-- the status of a call: 0, and 2 for any fault
abbrev pub IsStatus : {A : Type 0} → Result A ToolFault → ℕ → Type 0
IsStatus (Ok a) status = status ≡ 0
IsStatus (Err fault) status = status ≡ 2

-- the status of a check: 0 if all was clean, 1 if not, and 2 for any fault
abbrev pub IsCheckStatus : Result Summary ToolFault → ℕ → Type 0
IsCheckStatus (Ok s) status = (status ≤ 1) × ((status ≡ 0) ↔ IsFaultless s)
IsCheckStatus (Err fault) status = status ≡ 2

-- what is asked for was done: what the reader gave before and after, what the writer had and has, and the status
abbrev pub Executes : Request → Option (List ℕ) → Option (List ℕ) → Option (List ℕ) → Option (List ℕ) → ℕ → Type 0
Executes (request.List o) before after start now status =
    (xs : List ℕ) × (answer : Result Summary ToolFault) × Consumes before after xs
    × Lists o after start now xs answer × IsStatus answer status
Executes (request.Check o) before after start now status =
    (xs : List ℕ) × (answer : Result Summary ToolFault) × Consumes before after xs
    × Checks o after start now xs answer × IsCheckStatus answer status
Executes (request.Show dictionary hex) before after start now status =
    (answer : Result (Unit {0}) ToolFault) × (after ≡ before)
    × Shows (option_map (λ s. s.now) dictionary) hex.now start now answer × IsStatus answer status
Executes (request.Encode reads) before after start now status =
    (xs : List ℕ) × (answer : Result (Unit {0}) ToolFault) × Consumes before after xs
    × Encodes reads after start now xs answer × IsStatus answer status
