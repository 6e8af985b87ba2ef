-- The frames of some reports, and how many verdicts named a station.
use Rattle.std.specs.Prelude.{ℕ, ◌==◌, ◌&&◌, Bool, true, false, List, count_by, filter_map, Option, Some, None}
use Rattle.circular_buffer.specs.Buffer.{keep_last}
use Rattle.bus_bits.specs.declared.span.Span.{Span}
use Rattle.bus_line.specs.Report.{Kind, Frame}
use Rattle.bus_line.specs.Shown.{span_of}
use Rattle.bus_dictionary.specs.Entry.{FrameType}
use Rattle.bus_line.specs.LineReport.{LineReport}
use Rattle.bus_pairing.specs.Talk.{verdicts}
use Rattle.bus_line.specs.declared.line.Line.{Line}
use Rattle.bus_line.specs.declared.line.Line.TheVariants.{First}
use Rattle.bus_pairing.specs.declared.outcome.Outcome.{Outcome}
use Rattle.bus_pairing.specs.declared.outcome.Outcome.TheVariants.{Answered, Late, Missing, Spoilt}
use Rattle.bus_pairing.specs.declared.counts.Counts.{Counts}
use Rattle.bus_pairing.specs.declared.verdict.Verdict.{Verdict}
use Rattle.bus_pairing.specs.declared.kept.Kept.{Kept}
use Rattle.bus_pairing.specs.declared.pair_kept.PairKept.{PairKept}

-- a frame: its line, where it stands, and its octets
pub record KeptFrame : Type 0 where
  pub line : Line
  pub span : Span
  pub octets : List ℕ

-- the line of a frame; the only one counts as the first
abbrev pub line_of : Option Line → Line
line_of None = First
line_of (Some line) = line

abbrev pub frame_at : Line → Span → Kind → Option KeptFrame
frame_at line span (Frame octets) = Some (record { line = line; span = span; octets = octets })
frame_at line span kind = None

abbrev pub frame_of : LineReport → Option KeptFrame
frame_of h = frame_at (line_of h.line) (span_of h.report) h.report.kind

-- the frames among the reports
abbrev pub frames : List LineReport → List KeptFrame
frames hs = filter_map frame_of hs

-- the last of them
abbrev pub history : ℕ → List LineReport → List KeptFrame
history depth hs = keep_last depth (frames hs)

abbrev pub is_outcome : Outcome → Outcome → Bool
is_outcome Answered Answered = true
is_outcome Missing Missing = true
is_outcome Spoilt Spoilt = true
is_outcome Late Late = true
is_outcome o p = false

-- how many verdicts with this outcome name the station
abbrev pub verdicts_of : Outcome → ℕ → List Verdict → ℕ
verdicts_of o station vs = count_by (λ v. is_outcome o v.outcome && v.station == station) vs

-- the verdicts that name a station
abbrev pub tally : List FrameType → List LineReport → ℕ → Counts
tally d hs station = record {
  answered = verdicts_of Answered station (verdicts d hs);
  missing = verdicts_of Missing station (verdicts d hs);
  spoilt = verdicts_of Spoilt station (verdicts d hs);
  late = verdicts_of Late station (verdicts d hs);
}

-- a frame that is kept
abbrev pub kept_on : Line → Kept → KeptFrame
kept_on line k = record { line = line; span = k.span; octets = k.octets }

-- of the only line
abbrev pub kept_frame : Kept → KeptFrame
kept_frame k = kept_on First k

-- of one of two
abbrev pub kept_pair : PairKept → KeptFrame
kept_pair k = kept_on k.line k.kept
