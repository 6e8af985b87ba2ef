-- A piece and an event as they are handed out, and the report that each is.
use Rattle.std.specs.Prelude.{ℕ, List, Option, Some, None}
use Rattle.bus_bits.specs.Octet.{octets}
use Rattle.bus_bits.specs.declared.span.Span.{Span}
use Rattle.bus_line.specs.Report.{Report, Kind}
use Rattle.bus_line.specs.declared.piece.Piece.{Piece}
use Rattle.bus_line.specs.declared.piece.Piece.TheVariants as piece
use Rattle.bus_line.specs.declared.event.Event.{Event}
use Rattle.bus_line.specs.declared.event.EventKind.{EventKind}
use Rattle.bus_line.specs.declared.event.EventKind.TheVariants as event

-- what a piece reports
abbrev pub report_of : Piece → Report
report_of (piece.Frame span octets) = record { kind = Kind.Frame octets.now; first = span.first; past = span.past }
report_of (piece.Damaged span cause) = record { kind = Kind.Damaged cause; first = span.first; past = span.past }
report_of (piece.Overlong span) = record { kind = Kind.Overlong; first = span.first; past = span.past }
report_of (piece.Abort span) = record { kind = Kind.Abort; first = span.first; past = span.past }
report_of (piece.Idle span) = record { kind = Kind.Idle; first = span.first; past = span.past }

abbrev pub report_option : Option Piece → Option Report
report_option None = None
report_option (Some p) = Some (report_of p)

-- what an event reports, a frame's octets being these
abbrev pub kind_with : List ℕ → EventKind → Kind
kind_with octets event.Frame = Kind.Frame octets
kind_with octets (event.Damaged cause) = Kind.Damaged cause
kind_with octets event.Overlong = Kind.Overlong
kind_with octets event.Abort = Kind.Abort
kind_with octets event.Idle = Kind.Idle

abbrev pub reported : List ℕ → Event → Report
reported octets e = record { kind = kind_with octets e.kind; first = e.span.first; past = e.span.past }

-- the places of a report
abbrev pub span_of : Report → Span
span_of r = record { first = r.first; past = r.past }
