-- What is handed out, as it is seen.
use Rattle.std.specs.Prelude.{ℕ, ◌+◌, ◌≤◌, Bool, List, length, Option, Some, None, option_map}
use Rattle.std.specs.Borrow.{Bor}
use Rattle.bus_bits.specs.declared.span.Span.{Span}
use Rattle.bus_line.specs.Limits.{most_octets}
use Rattle.bus_line.specs.Shown.{report_of, reported}
use Rattle.bus_line.specs.Due.{begun}
use Rattle.bus_line.specs.Ledger.{octet_count}
use Rattle.bus_pairing.specs.History.{KeptFrame, kept_frame, kept_pair}
use Rattle.bus_line.specs.declared.line.Line.{Line}
use Rattle.bus_pairing.specs.declared.pair_kept.PairKept.{PairKept}
use Rattle.bus_pairing.specs.Seen.{SeenReport}
use Rattle.bus_pairing.specs.declared.seen.Seen.{Seen}
use Rattle.bus_pairing.specs.declared.seen_event.SeenEvent.{SeenEvent}
use Rattle.bus_pairing.specs.declared.kept.Kept.{Kept}

-- a report of a line and what follows from it
abbrev pub shown_on : Option Line → Seen → SeenReport
shown_on line s =
    record { line = line; report = report_of s.piece; standing = s.standing; verdict = s.verdict; stray = s.stray }

-- of the only line
abbrev pub shown : Seen → SeenReport
shown s = shown_on None s

abbrev pub shown_option : Option Seen → Option SeenReport
shown_option None = None
shown_option (Some s) = Some (shown s)

-- what is seen of an event on a line, a frame's octets being these
abbrev pub found_on : Option Line → List ℕ → SeenEvent → SeenReport
found_on line octets f =
    record {
      line = line;
      report = reported octets f.event;
      standing = f.standing;
      verdict = f.verdict;
      stray = f.stray;
    }

-- on the only line
abbrev pub found : List ℕ → SeenEvent → SeenReport
found octets f = found_on None octets f

-- a frame has no more octets than are kept of one
abbrev pub IsKeepable : Option Seen → Type 0
IsKeepable None = Unit {0}
IsKeepable (Some s) = octet_count (report_of s.piece) ≤ most_octets

-- a kept frame of the only line that is lent
abbrev pub kept_option : Option (Bor Kept) → Option KeptFrame
kept_option None = None
kept_option (Some k) = Some (kept_frame k.now)

-- one of two lines
abbrev pub kept_pair_option : Option (Bor PairKept) → Option KeptFrame
kept_pair_option None = None
kept_pair_option (Some k) = Some (kept_pair k.now)

-- the piece that has begun in the bits b, whose first has the place `origin`, up to the next bit
abbrev pub begun_span : ℕ → List Bool → Option Span
begun_span origin b = option_map (λ first. record { first = origin + first; past = origin + length b }) (begun b)
