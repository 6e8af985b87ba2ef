-- What is seen: each report, and what follows from it and the reports before it.
use Rattle.std.specs.Prelude.{ℕ, ◌==◌, not, ◌&&◌, nat_le, Bool, true, false, List, length, take, find, filter}
use Rattle.std.specs.Prelude.{filter_map, slice_get, Option, Some, None, option_map, option_and_then, if◌then◌else◌}
use Rattle.std.specs.List.{last_or}
use Rattle.bus_line.specs.Report.{Report, due}
use Rattle.bus_line.specs.Due.{places}
use Rattle.bus_line.specs.LineReport.{LineReport, line_report}
use Rattle.bus_line.specs.declared.line.Line.{Line}
use Rattle.bus_dictionary.specs.Entry.{FrameType}
use Rattle.bus_dictionary.specs.declared.standing.Standing.{Standing}
use Rattle.bus_dictionary.specs.Standing.{type_in}
use Rattle.bus_pairing.specs.Talk.{talk, is_idle_kind, standing_of, verdict_on}
use Rattle.bus_pairing.specs.declared.outcome.Outcome.{Outcome}
use Rattle.bus_pairing.specs.declared.outcome.Outcome.TheVariants.{Answered, Late}
use Rattle.bus_pairing.specs.declared.verdict.Verdict.{Verdict}

pub record SeenReport : Type 0 where
  pub line : Option Line
  pub report : Report
  pub standing : Option Standing
  pub verdict : Option Verdict
  pub stray : Bool

-- the report, without what follows from it
abbrev pub report_in : SeenReport → LineReport
report_in s = line_report s.line s.report

-- the verdict that a report decides: that on its left neighbour in the talk
abbrev pub decided : List FrameType → List LineReport → LineReport → Option Verdict
decided d before h =
    if is_idle_kind h.report.kind then None else option_and_then (λ left. verdict_on d left h) (last_or None
    (talk before))

-- the frame type, if it has a standing that gives one
abbrev pub type_of : Option Standing → Option ℕ
type_of s = option_and_then type_in s

abbrev pub is_answer_type : Option ℕ → Bool
is_answer_type None = false
is_answer_type (Some t) = nat_le 128 t

abbrev pub is_answered : Outcome → Bool
is_answered Answered = true
is_answered Late = true
is_answered outcome = false

abbrev pub answers : Option Verdict → Bool
answers None = false
answers (Some v) = is_answered v.outcome

-- of a type of 128 or more, and no answer, in time or late
abbrev pub is_stray : Option Standing → Option Verdict → Bool
is_stray standing verdict = is_answer_type (type_of standing) && not (answers verdict)

-- a report, with those before it
abbrev pub seen_of : List FrameType → List LineReport → LineReport → SeenReport
seen_of d before h = record {
  line = h.line;
  report = h.report;
  standing = standing_of d h.report.kind;
  verdict = decided d before h;
  stray = is_stray (standing_of d h.report.kind) (decided d before h);
}

-- report number i, with those before it
abbrev pub seen_number : List FrameType → List LineReport → ℕ → Option SeenReport
seen_number d hs i = option_map (seen_of d (take i hs)) (slice_get hs i)

-- what is seen of these reports, in their order
abbrev pub seen : List FrameType → List LineReport → List SeenReport
seen d hs = filter_map (seen_number d hs) (places (length hs))

-- what is seen of the report that is due at a place, if there is one
abbrev pub seen_at : List FrameType → List LineReport → ℕ → Option SeenReport
seen_at d hs place = find (λ s. due s.report == place) (seen d hs)

-- what is seen of all reports that are due there: of two lines both may have one
abbrev pub all_seen_at : List FrameType → List LineReport → ℕ → List SeenReport
all_seen_at d hs place = filter (λ s. due s.report == place) (seen d hs)
