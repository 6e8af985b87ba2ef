-- Bits of two lines with a clock each, in the order in which they arrive, and the reports of these lines.
--
-- The first line's bits number the places. The second line has a clock of its own: it may be quicker or slower, and may
-- stop. So a bit of the second line has no place of its own, and stands at that of the last bit of the first line
-- before it. Each line is decoded from its own bits alone, and its reports come when these decide.
use Rattle.std.specs.Prelude.{ℕ, zero, suc, ◌+◌, ◌-◌, Bool, List, [], ◌∷◌, ◌++◌, length, map, take, drop, zip, Option}
use Rattle.std.specs.Prelude.{Some, option_map, if◌then◌else◌}
use Rattle.std.specs.List.{flat_map}
use Rattle.std.specs.Option.{option_to_list}
use Rattle.bus_bits.specs.Bits.{bits_from}
use Rattle.bus_line.specs.Report.{Report, moved}
use Rattle.bus_bits.specs.declared.span.Span.{Span}
use Rattle.bus_line.specs.Due.{places, due_at, begun}
use Rattle.bus_line.specs.LineReport.{LineReport, line_report, line_reports_at}
use Rattle.bus_line.specs.declared.line.Line.{Line}
use Rattle.bus_line.specs.declared.line.Line.TheVariants.{First, Second}

-- a bit, and the line that it arrived on
abbrev pub Arrival : Type 0
Arrival = Line × Bool

-- an arrival, by its bit and whether it is one of the second line
abbrev pub arrival_of : Bool × Bool → Arrival
arrival_of (bit, is_second) = (if is_second then Second else First, bit)

-- those of two rows of octets, so many from one on: the first row has their bits, and the second whether they are bits
-- of the second line, the lowest of each octet first
abbrev pub arrivals_from : List ℕ → List ℕ → ℕ → ℕ → List Arrival
arrivals_from bits lines from count = map arrival_of (zip (bits_from bits from count) (bits_from lines from count))

-- the bits of either line
abbrev pub own : Line → List Arrival → List Bool
own First [] = []
own Second [] = []
own First ((First, bit) ∷ xs) = bit ∷ own First xs
own First ((Second, bit) ∷ xs) = own First xs
own Second ((First, bit) ∷ xs) = own Second xs
own Second ((Second, bit) ∷ xs) = bit ∷ own Second xs

-- how many bits of the first line come before bit `k` of the second
abbrev pub firsts_before : ℕ → List Arrival → ℕ
firsts_before k [] = 0
firsts_before k ((First, bit) ∷ xs) = suc (firsts_before k xs)
firsts_before zero ((Second, bit) ∷ xs) = 0
firsts_before (suc k) ((Second, bit) ∷ xs) = firsts_before k xs

-- the place of bit `k` of the second line: that of the last bit of the first line before it, and place 0 where there
-- is none
abbrev pub place_of : List Arrival → ℕ → ℕ
place_of xs k = firsts_before k xs - 1

-- a report of the second line in places: from that of its first bit up to past that of its last
abbrev pub at_places : List Arrival → Report → Report
at_places xs r = record { kind = r.kind; first = place_of xs r.first; past = place_of xs (r.past - 1) + 1 }

-- the piece of the second line that has begun, in places: from that of its first bit up to past that of the last bit
abbrev pub begun_places : ℕ → List Arrival → Option Span
begun_places origin xs = option_map (λ first. record {
  first = origin + place_of xs first;
  past = origin + (place_of xs (length (own Second xs) - 1) + 1);
}) (begun (own Second xs))

-- what is due at bit `k` of a line; the first bit of the first line has the place `origin`
abbrev pub due_on : ℕ → ℕ → List Arrival → Line → ℕ → List LineReport
due_on origin longest xs First k = line_reports_at First origin longest (own First xs) k
due_on origin longest xs Second k =
    map (line_report (Some Second))
    (option_to_list (option_map (λ r. moved origin (at_places xs r)) (due_at longest (own Second xs) k)))

-- what arrival `i` decides: what is due at its bit, on its line
abbrev pub decided_at : ℕ → ℕ → List Arrival → ℕ → List LineReport
decided_at origin longest xs i =
    flat_map (λ (x : Arrival). due_on origin longest xs x.0 (length (own x.0 (take i xs)))) (take 1 (drop i xs))

-- the reports of both lines, in the order of the arrivals that decide them
abbrev pub arrived : ℕ → ℕ → List Arrival → List LineReport
arrived origin longest xs = flat_map (decided_at origin longest xs) (places (length xs))

-- what one arrival more decides
abbrev pub decides : ℕ → ℕ → List Arrival → Arrival → List LineReport
decides origin longest xs x = due_on origin longest (xs ++ x ∷ []) x.0 (length (own x.0 xs))
