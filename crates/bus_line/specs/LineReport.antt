-- Reports with the line that each is on: of one line, or merged from two.
use Rattle.std.specs.Prelude.{ℕ, Bool, true, false, List, ◌++◌, length, map, filter, zip, Option, Some, None}
use Rattle.std.specs.Prelude.{option_map}
use Rattle.std.specs.List.{flat_map}
use Rattle.std.specs.Option.{option_to_list}
use Rattle.bus_bits.specs.Octet.{bits_of}
use Rattle.bus_line.specs.Report.{Report, moved}
use Rattle.bus_line.specs.Due.{places, due_at}
use Rattle.bus_line.specs.declared.line.Line.{Line}
use Rattle.bus_line.specs.declared.line.Line.TheVariants.{First, Second}

-- a report, and on which of two lines it came; `None` where there is one line
pub record LineReport : Type 0 where
  pub line : Option Line
  pub report : Report

abbrev pub line_report : Option Line → Report → LineReport
line_report line r = record { line = line; report = r }

-- the reports of one line
abbrev pub of_line : List Report → List LineReport
of_line rs = map (line_report None) rs

-- the bits of either line, of pairs of bits
abbrev pub firsts : List (Bool × Bool) → List Bool
firsts ps = map (λ p. p.0) ps

abbrev pub seconds : List (Bool × Bool) → List Bool
seconds ps = map (λ p. p.1) ps

abbrev pub bits_on : Line → List (Bool × Bool) → List Bool
bits_on First ps = firsts ps
bits_on Second ps = seconds ps

-- the lowest bits of two numbers, in pairs
abbrev pub pairs_of : ℕ → ℕ → ℕ → List (Bool × Bool)
pairs_of count first second = zip (bits_of count first) (bits_of count second)

-- what is reported on a line of two at a place
abbrev pub line_reports_at : Line → ℕ → ℕ → List Bool → ℕ → List LineReport
line_reports_at line origin longest b i =
    map (line_report (Some line)) (option_to_list (option_map (moved origin) (due_at longest b i)))

-- the reports of two lines by due place, the first line's first where both have one; the first pair has the place
-- `origin`
abbrev pub merged : ℕ → ℕ → List (Bool × Bool) → List LineReport
merged origin longest ps =
    flat_map (λ i. line_reports_at First origin longest (firsts ps) i
    ++ line_reports_at Second origin longest (seconds ps) i) (places (length ps))

abbrev pub is_line : Line → Option Line → Bool
is_line First (Some First) = true
is_line Second (Some Second) = true
is_line line on = false

-- the reports of one of two lines among them
abbrev pub of_side : Line → List LineReport → List Report
of_side line hs = map (λ (h : LineReport). h.report) (filter (λ (h : LineReport). is_line line h.line) hs)
