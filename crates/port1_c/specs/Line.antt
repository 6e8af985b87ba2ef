-- What a C caller's memory says of a decoder and of a report.
use Rattle.std.specs.Prelude.{◌≡◌, ◌≢◌, ◌≤◌, ◌==◌, not, ℕ, Bool, List, take, Option, Some, None, if◌then◌else◌}
use Rattle.bus_fcs.specs.declared.octet_check.OctetCheck.{OctetCheck}
use Rattle.bus_fcs.specs.Folded.{by_tables}
use Rattle.bus_line.specs.After as line
use Rattle.bus_line.specs.Words.{IsDecoder, LineState, state}
use Rattle.bus_line.specs.Report.{Report, Kind}
use Rattle.bus_line.specs.declared.cause.Cause.{Cause}
use Rattle.bus_line.specs.declared.cause.Cause.TheVariants as cause
use Rattle.port1_c.specs.declared.line.Port1Line.{Port1Line}
use Rattle.port1_c.specs.declared.report.Port1Report.{Port1Report}

abbrev pub first_told : ℕ → ℕ → Option ℕ
first_told has first = if has == 0 then None else Some first

-- the octets of the piece
abbrev pub octets_of : Port1Line → List ℕ
octets_of l = take l.frame.len l.frame.octets

-- the memory holds a decoder
abbrev pub Sound : Port1Line → Type 0
Sound l = IsDecoder l.words (octets_of l)

-- the check whose register the memory holds
abbrev pub check_of : Port1Line → OctetCheck
check_of l = record { state = l.frame.register }

-- the decoder that the memory holds
abbrev pub held : Port1Line → LineState OctetCheck
held l = state l.words (check_of l) (octets_of l)

-- the memory may hold a decoder after the bits b
abbrev pub LineAfter : Port1Line → List Bool → Type 0
LineAfter l b = line.After by_tables (held l) b

-- a number that stands for a bit
abbrev pub bit_told : ℕ → Bool
bit_told n = not (n == 0)

abbrev pub cause_told : ℕ → Cause
cause_told n =
    if n == 1 then cause.Unstuffed
    else (if n == 2 then cause.Short else (if n == 3 then cause.Unaligned else cause.Fcs))

abbrev pub kind_told : ℕ → ℕ → List ℕ → Kind
kind_told kind cause octets =
    if kind == 1 then Kind.Frame octets else
    (if kind == 2 then Kind.Damaged (cause_told cause) else
    (if kind == 3 then Kind.Overlong else
    (if kind == 4 then Kind.Abort else Kind.Idle)))

-- the report that the memory tells, if it tells one; a frame's octets are these
abbrev pub report_told : Port1Report → List ℕ → Option Report
report_told r octets =
    if r.kind == 0
    then None else Some (record { kind = kind_told r.kind r.cause octets; first = r.first; past = r.past })

-- the numbers of c/include/port1.h: a kind up to 5, and a cause of 1 to 4 for a damaged piece alone
pub record IsCoded (r : Port1Report) : Type 0 where
  pub kind_fits : r.kind ≤ 5
  pub damaged : r.kind ≡ 2 → (1 ≤ r.cause) × (r.cause ≤ 4)
  pub others : r.kind ≢ 2 → r.cause ≡ 0

-- these bits lead from old to new, and decide just this report, if it is one
abbrev pub DecidesLine : LineState OctetCheck → List Bool → Port1Report → LineState OctetCheck → Type 0
DecidesLine old bits r new = line.Decides by_tables old bits (report_told r new.octets) new

-- these bits lead from old to new; the last of them decides this report, if it is one, and no other decides a report
abbrev pub AdvancesLine : LineState OctetCheck → List Bool → Port1Report → LineState OctetCheck → Type 0
AdvancesLine old bits r new = line.Advances by_tables old bits (report_told r new.octets) new
