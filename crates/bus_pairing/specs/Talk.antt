-- The talk on one line or two: its commands that wait for an answer, and the verdicts on them.
use Rattle.std.specs.Prelude.{ℕ, ◌+◌, ◌==◌, ◌&&◌, not, nat_lt, Bool, true, false, List, [], ◌∷◌, filter, filter_map}
use Rattle.std.specs.Prelude.{Option, Some, None, option_map, option_and_then, if◌then◌else◌}
use Rattle.std.specs.List.{last_or}
use Rattle.bus_bits.specs.declared.span.Span.{Span}
use Rattle.bus_line.specs.Report.{Kind, Frame, Idle}
use Rattle.bus_line.specs.Shown.{span_of}
use Rattle.bus_line.specs.LineReport.{LineReport}
use Rattle.bus_line.specs.declared.line.Line.{Line}
use Rattle.bus_line.specs.declared.line.Line.TheVariants.{First, Second}
use Rattle.bus_dictionary.specs.Entry.{FrameType}
use Rattle.bus_dictionary.specs.Dictionary.{entry_at}
use Rattle.bus_dictionary.specs.Standing.{standing}
use Rattle.bus_dictionary.specs.declared.standing.Standing.{Standing}
use Rattle.bus_dictionary.specs.declared.standing.Standing.TheVariants.{Known}
use Rattle.bus_pairing.specs.declared.outcome.Outcome.{Outcome}
use Rattle.bus_pairing.specs.declared.outcome.Outcome.TheVariants.{Answered, Late, Missing, Spoilt}
use Rattle.bus_pairing.specs.declared.pending.Pending.{Pending}
use Rattle.bus_pairing.specs.declared.verdict.Verdict.{Verdict}

abbrev pub is_idle_kind : Kind → Bool
is_idle_kind Idle = true
is_idle_kind kind = false

-- the reports without idles
abbrev pub talk : List LineReport → List LineReport
talk hs = filter (λ h. not (is_idle_kind h.report.kind)) hs

-- each item but the last, with the one right of it
abbrev pub neighbours : {A : Type 0} → List A → List (A × A)
neighbours [] = []
neighbours (x ∷ []) = []
neighbours (x ∷ y ∷ rest) = (x, y) ∷ neighbours (y ∷ rest)

-- how a frame stands to the dictionary; nothing else has a standing
abbrev pub standing_of : List FrameType → Kind → Option Standing
standing_of d (Frame octets) = Some (standing octets d)
standing_of d kind = None

-- whether an entry says that commands of its type are answered
abbrev pub asks : Option FrameType → Bool
asks None = false
asks (Some e) = e.answered

-- a frame of this standing is a command that waits: known, of a type below 128 that is answered (this product's profile
-- of Port 1), to one station and not to all (ISO/IEC 13239, all-station address)
abbrev pub command : List FrameType → Span → Standing → Option Pending
command d span (Known station ftype) =
    if nat_lt ftype 128 && (asks (entry_at ftype d) && not (station == 255))
    then Some (record { span = span; station = station; ftype = ftype }) else None
command d span standing = None

-- commands wait on the only line, and on the first of two
abbrev pub carries_commands : Option Line → Bool
carries_commands None = true
carries_commands (Some First) = true
carries_commands (Some Second) = false

-- answers come on the only line, and on the second of two
abbrev pub carries_answers : Option Line → Bool
carries_answers None = true
carries_answers (Some First) = false
carries_answers (Some Second) = true

-- where commands wait
abbrev pub command_on : Option Line → List FrameType → Span → Standing → Option Pending
command_on line d span standing = if carries_commands line then command d span standing else None

-- the command that a report is, if it waits
abbrev pub waits : List FrameType → LineReport → Option Pending
waits d h = option_and_then (command_on h.line d (span_of h.report)) (standing_of d h.report.kind)

-- how many bits after a command its answer may begin, if its entry says so
abbrev pub window_of : Option FrameType → Option ℕ
window_of None = None
window_of (Some e) = e.window

-- more bits than the window lie between a command's last and an answer's first; without a window never
abbrev pub is_late : Option ℕ → Span → ℕ → Bool
is_late None command first = false
is_late (Some window) command first = nat_lt (command.past + window) first

-- a frame's line, its first bit, and how it stands to the dictionary; nothing else has these
abbrev pub begins : List FrameType → LineReport → Option (Option Line × ℕ × Standing)
begins d h = option_map (λ s. (h.line, h.report.first, s)) (standing_of d h.report.kind)

-- what becomes of a command, by what is right of it: a known frame of the same station whose type is 128 more (this
-- product's profile of Port 1) is its answer, in time or late, on a line where answers come
abbrev pub outcome : List FrameType → Pending → Option (Option Line × ℕ × Standing) → Outcome
outcome d p None = Spoilt
outcome d p (Some (line, first, Known station ftype)) =
    if carries_answers line && (station == p.station && ftype == p.ftype + 128)
    then (if is_late (window_of (entry_at p.ftype d)) p.span first then Late else Answered) else Missing
outcome d p (Some (line, first, standing)) = Missing

abbrev pub verdict : List FrameType → Option (Option Line × ℕ × Standing) → Pending → Verdict
verdict d right p = record { outcome = outcome d p right; span = p.span; station = p.station; ftype = p.ftype }

-- the verdict on a report, where it waits, by its right neighbour
abbrev pub verdict_on : List FrameType → LineReport → LineReport → Option Verdict
verdict_on d left right = option_map (verdict d (begins d right)) (waits d left)

-- the verdicts on all commands that have a right neighbour in the talk
abbrev pub verdicts : List FrameType → List LineReport → List Verdict
verdicts d hs = filter_map (λ pair. verdict_on d pair.0 pair.1) (neighbours (talk hs))

-- the command that has none
abbrev pub pending : List FrameType → List LineReport → Option Pending
pending d hs = option_and_then (waits d) (last_or None (talk hs))
