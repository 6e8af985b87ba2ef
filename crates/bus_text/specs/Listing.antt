-- The lines of a listing, and its text.
use Rattle.std.specs.Prelude.{Bool, true, false, ℕ, ◌+◌, ◌/◌, ◌%◌, ◌==◌, ◌&&◌, List, [], ◌∷◌, ◌++◌, decimal, codes}
use Rattle.std.specs.Prelude.{filter, if◌then◌else◌, nat_lt, Option, Some, None, option_map}
use Rattle.std.specs.List.{flat_map}
use Rattle.std.specs.Option.{option_to_list}
use Rattle.bus_bits.specs.declared.span.Span.{Span}
use Rattle.bus_line.specs.declared.cause.Cause.{Cause}
use Rattle.bus_line.specs.declared.cause.Cause.TheVariants.{Unstuffed, Short, Unaligned, Fcs}
use Rattle.bus_line.specs.Report as report
use Rattle.bus_line.specs.Report.{Report}
use Rattle.bus_line.specs.Shown.{span_of}
use Rattle.bus_dictionary.specs.Entry.{FrameType}
use Rattle.bus_dictionary.specs.declared.standing.Standing.{Standing}
use Rattle.bus_dictionary.specs.Standing.{station_in, type_in}
use Rattle.bus_pairing.specs.Seen.{SeenReport, type_of}
use Rattle.bus_line.specs.declared.line.Line as on
use Rattle.bus_line.specs.declared.line.Line.TheVariants.{First, Second}
use Rattle.bus_pairing.specs.declared.outcome.Outcome.{Outcome}
use Rattle.bus_pairing.specs.declared.outcome.Outcome.TheVariants.{Answered, Late, Missing, Spoilt}
use Rattle.bus_pairing.specs.declared.verdict.Verdict.{Verdict}
use Rattle.bus_pairing.specs.declared.pending.Pending.{Pending}
use Rattle.bus_text.specs.HeadText.{station_text, head_text}
use Rattle.bus_text.specs.Kinds.{kind_word, is_kind}
use Rattle.bus_text.specs.declared.kind.Kind.{Kind}
use Rattle.bus_text.specs.declared.kind.Kind.TheVariants as kind
use Rattle.bus_text.specs.declared.filter.Filter.{Filter}
use Rattle.bus_text.specs.declared.printer.Printer.{Printer}

-- the character of a digit below 16
abbrev pub hex_digit : ℕ → ℕ
hex_digit d = if nat_lt d 10 then 48 + d else 87 + d

-- an octet as two lower-case digits
abbrev pub hex_octet : ℕ → List ℕ
hex_octet o = hex_digit (o / 16) ∷ hex_digit (o % 16) ∷ []

-- two digits for each octet
abbrev pub hex_of : List ℕ → List ℕ
hex_of os = flat_map hex_octet os

-- why a piece is damaged
abbrev pub cause_word : Cause → List ℕ
cause_word Unstuffed = codes "unstuffed"
cause_word Short = codes "short"
cause_word Unaligned = codes "unaligned"
cause_word Fcs = codes "fcs"

-- what a report is
abbrev pub report_word : report.Kind → List ℕ
report_word (report.Frame octets) = codes "frame " ++ hex_of octets
report_word (report.Damaged cause) = codes "damaged " ++ cause_word cause
report_word report.Overlong = codes "overlong"
report_word report.Abort = codes "abort"
report_word report.Idle = codes "idle"

abbrev pub report_kind : report.Kind → Kind
report_kind (report.Frame octets) = kind.Frame
report_kind (report.Damaged cause) = kind.Damaged
report_kind report.Overlong = kind.Overlong
report_kind report.Abort = kind.Abort
report_kind report.Idle = kind.Idle

-- two places, each with a space after it
abbrev pub span_text : Span → List ℕ
span_text span = decimal span.first ++ codes " " ++ decimal span.past ++ codes " "

-- of two lines, what is said of one begins with its number; of the only line nothing is said
abbrev pub line_number : Option on.Line → List ℕ
line_number None = []
line_number (Some First) = codes "1 "
line_number (Some Second) = codes "2 "

-- the line on which the commands are, of which verdicts are said: the only one, or the first of two
abbrev pub line_of_commands : Option on.Line → Option on.Line
line_of_commands None = None
line_of_commands (Some line) = Some First

-- a line: its text, and what a filter asks of it
pub record Line : Type 0 where
  pub kind : Kind
  pub station : Option ℕ
  pub ftype : Option ℕ
  pub text : List ℕ

-- the station that a frame names, if it has a standing
abbrev pub station_of : Option Standing → Option ℕ
station_of s = option_map station_in s

-- a space and what the head of a frame says, where there is a dictionary
abbrev pub head_part : Bool → List FrameType → Option Standing → List ℕ
head_part heads d None = []
head_part heads d (Some s) = if heads then codes " " ++ head_text s d else []

-- the line of a report: on which line, its places, what it is, and what the head of a frame says
abbrev pub report_line : Bool → List FrameType → SeenReport → Line
report_line heads d s = record {
  kind = report_kind s.report.kind;
  station = station_of s.standing;
  ftype = type_of s.standing;
  text =
      line_number s.line ++ (span_text (span_of s.report) ++ report_word s.report.kind)
      ++ head_part heads d s.standing ++ codes "\n";
}

-- a line about a frame of this station and type
abbrev pub frame_line : Option on.Line → Kind → Span → ℕ → ℕ → Line
frame_line line kind span station ftype = record {
  kind = kind;
  station = Some station;
  ftype = Some ftype;
  text = line_number line ++ span_text span ++ kind_word kind ++ codes " " ++ station_text station ftype ++ codes "\n";
}

abbrev pub outcome_kind : Outcome → Kind
outcome_kind Answered = kind.Answered
outcome_kind Missing = kind.Missing
outcome_kind Spoilt = kind.Spoilt
outcome_kind Late = kind.Late

-- the line of a verdict that a report on this line decides: with the places of its command
abbrev pub verdict_line : Option on.Line → Verdict → Line
verdict_line line v = frame_line (line_of_commands line) (outcome_kind v.outcome) v.span v.station v.ftype

-- the line of a stray, where its type is known
abbrev pub stray_line : Option on.Line → Span → Standing → Option Line
stray_line line span s = option_map (frame_line line kind.Stray span (station_in s)) (type_in s)

-- the line of a frame at these places, if it is a stray; only where there is a dictionary
abbrev pub strays_at : Option on.Line → Bool → Bool → Span → Option Standing → List Line
strays_at line heads stray span standing =
    if heads && stray then flat_map (λ s. option_to_list (stray_line line span s)) (option_to_list standing) else []

abbrev pub stray_lines : Bool → SeenReport → List Line
stray_lines heads s = strays_at s.line heads s.stray (span_of s.report) s.standing

-- the lines of a report: its own, that of the verdict that it decides, and that of a stray
abbrev pub seen_lines : Bool → List FrameType → SeenReport → List Line
seen_lines heads d s =
    report_line heads d s ∷ option_to_list (option_map (verdict_line s.line) s.verdict) ++ stray_lines heads s

-- a piece that has begun
abbrev pub begun_line : Option on.Line → Span → Line
begun_line line span =
    record {
      kind = kind.Begun;
      station = None;
      ftype = None;
      text = line_number line ++ span_text span
          ++ kind_word kind.Begun ++ codes "\n";
    }

abbrev pub pending_line : Option on.Line → Pending → Line
pending_line line p = frame_line line kind.Pending p.span p.station p.ftype

abbrev pub begun_lines : Option on.Line → Option Span → List Line
begun_lines line begun = option_to_list (option_map (begun_line line) begun)

abbrev pub pending_lines : Option on.Line → Option Pending → List Line
pending_lines line pending = option_to_list (option_map (pending_line line) pending)

-- the lines of the end: a piece that has begun, and a command that waits
abbrev pub ending_lines : Option Span → Option Pending → List Line
ending_lines begun pending = begun_lines None begun ++ pending_lines None pending

-- of two lines: such a piece of the first, one of the second, and a command that waits
abbrev pub pair_ending_lines : Option Span → Option Span → Option Pending → List Line
pair_ending_lines first second pending =
    begun_lines (Some First) first ++ begun_lines (Some Second) second ++ pending_lines (Some First) pending

-- what is wanted, if anything is, is what a line has
abbrev pub agrees : Option ℕ → Option ℕ → Bool
agrees None has = true
agrees (Some wanted) None = false
agrees (Some wanted) (Some has) = wanted == has

abbrev pub kind_agrees : Option Kind → Kind → Bool
kind_agrees None kind = true
kind_agrees (Some wanted) kind = is_kind wanted kind

-- whether a filter leaves a line
abbrev pub passes : Filter → Kind → Option ℕ → Option ℕ → Bool
passes f kind station ftype = agrees f.station station && (agrees f.ftype ftype && kind_agrees f.kind kind)

abbrev pub is_left : Filter → Line → Bool
is_left f l = passes f l.kind l.station l.ftype

-- the text of the lines that a filter leaves
unfoldable pub text_of : Filter → List Line → List ℕ
text_of f lines = flat_map (λ l. l.text) (filter (is_left f) lines)

-- the lines of what is seen
abbrev pub lines_of : Bool → List FrameType → List SeenReport → List Line
lines_of heads d seen = flat_map (seen_lines heads d) seen

-- the listing of what is seen, without the lines of the end
abbrev pub listing : Printer → List FrameType → List SeenReport → List ℕ
listing p d seen = text_of p.filter (lines_of p.heads d seen)

-- the text of some lines of the end
abbrev pub ending_text : Printer → List Line → List ℕ
ending_text p lines = text_of p.filter lines
