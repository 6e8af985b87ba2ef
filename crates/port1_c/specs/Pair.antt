-- What a C caller's memory says of commands and answers.
use Rattle.std.specs.Prelude.{◌≡◌, ◌≤◌, ℕ, ◌+◌, ◌==◌, not, List, [], ◌∷◌, length, replicate, Option, Some, None}
use Rattle.std.specs.Prelude.{if◌then◌else◌}
use Rattle.std.specs.List.{cons_option}
use Rattle.bus_dictionary.specs.Entry.{FrameType}
use Rattle.bus_dictionary.specs.declared.rules.Rule.{Rule}
use Rattle.bus_dictionary.specs.declared.standing.Standing.{Standing}
use Rattle.bus_dictionary.specs.declared.standing.Standing.TheVariants as standing
use Rattle.bus_line.specs.LineReport.{LineReport}
use Rattle.bus_pairing.specs.Seen.{SeenReport}
use Rattle.bus_pairing.specs.Talk.{pending}
use Rattle.bus_line.specs.declared.line.Line.{Line}
use Rattle.bus_line.specs.declared.line.Line.TheVariants.{First, Second}
use Rattle.bus_pairing.specs.declared.outcome.Outcome.{Outcome}
use Rattle.bus_pairing.specs.declared.outcome.Outcome.TheVariants.{Answered, Late, Missing, Spoilt}
use Rattle.bus_pairing.specs.declared.pending.Pending.{Pending}
use Rattle.bus_pairing.specs.declared.verdict.Verdict.{Verdict}
use Rattle.port1_c.specs.Line.{kind_told}
use Rattle.port1_c.specs.declared.entry.Port1Entry.{Port1Entry}
use Rattle.port1_c.specs.declared.pair.Port1Pair.{Port1Pair}
use Rattle.port1_c.specs.declared.report.Port1Report.{Port1Report}
use Rattle.port1_c.specs.declared.seen.Port1Seen.{Port1Seen}

-- a window of 0 bits is none
abbrev pub window_told : ℕ → Option ℕ
window_told n = if n == 0 then None else Some n

-- what an entry of a table says of frames of its type
abbrev pub rule_told : Port1Entry → Rule
rule_told e = record { size = e.length; answered = not (e.answered == 0); window = window_told e.window }

-- the same as an entry of a dictionary, which names nothing
abbrev pub type_told : ℕ → Port1Entry → FrameType
type_told ftype e = record {
  ftype = ftype;
  name = [];
  size = e.length;
  answered = not (e.answered == 0);
  window = window_told e.window;
  bits = [];
}

-- the entry of a type, where it is known
abbrev pub known : ℕ → Port1Entry → Option FrameType
known ftype e = if e.known == 0 then None else Some (type_told ftype e)

-- the dictionary that a table is, whose first entry is that of the type `first`
unfoldable pub entries_told : ℕ → List Port1Entry → List FrameType
entries_told first [] = []
entries_told first (e ∷ es) = cons_option (known first e) (entries_told (first + 1) es)

-- the command that waits
abbrev pub waiting : Port1Pair → Option Pending
waiting p =
    if p.waits == 0 then None else
    Some (record { span = record { first = p.first; past = p.past }; station = p.station; ftype = p.ftype })

-- what a pairing of no reports is
abbrev pub no_reports : Port1Pair
no_reports = record { first = 0; past = 0; waits = 0; station = 0; ftype = 0; spare = 0 }

-- the memory may stand after these reports
abbrev pub PairAfter : Port1Pair → List Port1Entry → List LineReport → Type 0
PairAfter p es hs = waiting p ≡ pending (entries_told 0 es) hs

-- 0 is the only line, and 1 and 2 are the lines of two
abbrev pub line_told : ℕ → Option Line
line_told n = if n == 0 then None else (if n == 1 then Some First else Some Second)

-- the report that the memory tells on a line, a frame having these octets
abbrev pub line_report_told : ℕ → Port1Report → List ℕ → LineReport
line_report_told line r octets =
    record {
      line = line_told line;
      report =
          record { kind = kind_told r.kind r.cause octets; first = r.first; past = r.past };
    }

-- a report that there can be: of a kind, with a cause where it is damage, and four octets or more where it is a frame
pub record CanBeReport (r : Port1Report) (octets : List ℕ) : Type 0 where
  pub some : 1 ≤ r.kind
  pub kind_fits : r.kind ≤ 5
  pub damaged : r.kind ≡ 2 → (1 ≤ r.cause) × (r.cause ≤ 4)
  pub frame : r.kind ≡ 1 → 4 ≤ length octets

-- how a frame stands to a table, by a number
abbrev pub standing_by : ℕ → ℕ → ℕ → ℕ → Option Standing
standing_by n station control ftype =
    if n == 0 then None else
    (if n == 1 then Some (standing.OtherControl station control) else
    (if n == 2 then Some (standing.Untyped station) else
    (if n == 3 then Some (standing.Unknown station ftype) else
    (if n == 4 then Some (standing.WrongLength station ftype) else Some (standing.Known station ftype)))))

abbrev pub standing_told : Port1Seen → Option Standing
standing_told s = standing_by s.standing s.station s.control s.ftype

abbrev pub outcome_told : ℕ → Outcome
outcome_told n = if n == 1 then Answered else (if n == 2 then Late else (if n == 3 then Missing else Spoilt))

abbrev pub verdict_told : Port1Seen → Option Verdict
verdict_told s =
    if s.verdict == 0 then None else
    Some (record {
      outcome = outcome_told s.verdict;
      span = record { first = s.first; past = s.past };
      station = s.command_station;
      ftype = s.command_type;
    })

-- its numbers are those that the header names, and its spare octets 0
pub record IsCodedSeen (s : Port1Seen) : Type 0 where
  pub standing : s.standing ≤ 5
  pub verdict : s.verdict ≤ 4
  pub stray : s.stray ≤ 1
  pub spare : s.spare ≡ replicate 7 0

-- what the memory says is seen of a report
abbrev pub seen_told : Port1Seen → LineReport → SeenReport
seen_told s h = record {
  line = h.line;
  report = h.report;
  standing = standing_told s;
  verdict = verdict_told s;
  stray = not (s.stray == 0);
}
