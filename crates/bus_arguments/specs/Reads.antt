-- How often what is asked for reads.
use Rattle.std.specs.Prelude.{◌≡◌, ℕ}
use Rattle.bus_arguments.specs.declared.request.Request.{Request}
use Rattle.bus_arguments.specs.declared.request.Request.TheVariants as request

-- how often it grants a call of the reader, where it reads
abbrev pub AllowsReads : ℕ → Request → Type 0
AllowsReads reads (request.List o) = o.reads ≡ reads
AllowsReads reads (request.Check o) = o.reads ≡ reads
AllowsReads reads (request.Show dictionary hex) = Unit {0}
AllowsReads reads (request.Encode granted) = granted ≡ reads
