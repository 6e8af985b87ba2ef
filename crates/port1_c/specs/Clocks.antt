-- What a C caller's memory says of two lines with a clock each.
use Rattle.std.specs.Prelude.{◌≡◌, ◌==◌, ◌-◌, ◌++◌, ◌∷◌, [], ℕ, List, map, take, drop, Option, Some, None}
use Rattle.std.specs.Prelude.{if◌then◌else◌}
use Rattle.std.specs.Option.{option_map, option_to_list}
use Rattle.bus_bits.specs.declared.span.Span.{Span}
use Rattle.bus_fcs.specs.declared.octet_check.OctetCheck.{OctetCheck}
use Rattle.bus_fcs.specs.Folded.{by_tables}
use Rattle.bus_line.specs.Shown.{reported}
use Rattle.bus_line.specs.declared.event.Event.{Event}
use Rattle.bus_line.specs.LineReport.{LineReport, line_report}
use Rattle.bus_pairing.specs.Shown.{begun_span}
use Rattle.bus_line.specs.declared.line.Line.{Line}
use Rattle.bus_line.specs.declared.line.Line.TheVariants.{First, Second}
use Rattle.bus_tap.specs.Arrival.{Arrival, own, arrived, begun_places}
use Rattle.bus_tap.specs.Lines.{LinesState, AreAfter, PushesLines}
use Rattle.port1_c.specs.Line.{Sound, held, octets_of, report_told}
use Rattle.port1_c.specs.Rest.{arrival_told, arrivals_told}
use Rattle.port1_c.specs.declared.arrival.Port1Arrival.{Port1Arrival}
use Rattle.port1_c.specs.declared.clocks.Port1Clocks.{Port1Clocks}
use Rattle.port1_c.specs.declared.line.Port1Line.{Port1Line}
use Rattle.port1_c.specs.declared.report.Port1Report.{Port1Report}

-- the memory of a line
abbrev pub memory_of : Port1Clocks → Line → Port1Line
memory_of c First = c.first
memory_of c Second = c.second

-- the memory holds two decoders
pub record AreSound (c : Port1Clocks) : Type 0 where
  pub first : Sound c.first
  pub second : Sound c.second

-- the decoders that it holds, with what it has of places
abbrev pub lines_told : Port1Clocks → LinesState OctetCheck
lines_told c = record { first = held c.first; second = held c.second; places = c.places }

-- it may stand after these arrivals
abbrev pub ClocksAfter : Port1Clocks → List Arrival → Type 0
ClocksAfter c xs = AreAfter by_tables (lines_told c) xs

-- the reports of both lines
abbrev pub arrived_told : Port1Clocks → List Arrival → List LineReport
arrived_told c xs = arrived c.first.words.origin c.first.words.longest xs

-- the report that the memory tells on a line, if it tells one; a frame's octets are in that line
abbrev pub decided_told : Port1Clocks → Line → Port1Report → List LineReport
decided_told c line r = map (line_report (Some line)) (option_to_list (report_told r (octets_of (memory_of c line))))

-- an arrival leads from old to new, and decides this event, if it is one
abbrev pub PushesClocks : Port1Clocks → Arrival → Option Event → Port1Clocks → Type 0
PushesClocks old x event new = PushesLines by_tables (lines_told old) x (map (line_report (Some x.0))
    (option_to_list (option_map (reported (octets_of (memory_of new x.0))) event))) (lines_told new)

-- the last of these arrivals, that before number `past`, decided just what the report tells: it is no report before
abbrev pub LastDecides : Port1Clocks → List Port1Arrival → ℕ → ℕ → Port1Report → Port1Clocks → Type 0
LastDecides old arrivals at past r new = (a : Port1Arrival) × (take 1 (drop (past - 1) arrivals) ≡ a ∷ [])
    × ((xs : List Arrival) → ClocksAfter old xs → arrived_told old (xs ++ arrivals_told arrivals at past)
    ≡ arrived_told old xs ++ decided_told new (arrival_told a).0 r)

-- these arrivals decided no report
abbrev pub DecideNone : Port1Clocks → List Port1Arrival → ℕ → ℕ → Type 0
DecideNone old arrivals at past = (xs : List Arrival) → ClocksAfter old xs →
    arrived_told old (xs ++ arrivals_told arrivals at past) ≡ arrived_told old xs

-- these arrivals lead from old to new
abbrev pub TakesArrivals : Port1Clocks → List Port1Arrival → ℕ → ℕ → Port1Clocks → Type 0
TakesArrivals old arrivals at past new = (xs : List Arrival) → ClocksAfter old xs →
    ClocksAfter new (xs ++ arrivals_told arrivals at past)

-- the piece that the line of this number, 1 or 2, has begun
abbrev pub open_on : ℕ → ℕ → List Arrival → Option Span
open_on line origin xs = if line == 1 then begun_span origin (own First xs) else begun_places origin xs

-- it is told so
abbrev pub span_told : ℕ → ℕ → ℕ → Option Span
span_told has first past = if has == 0 then None else Some (record { first = first; past = past })
