-- A report of a log, of one line or of two, as it was seen.
use Rattle.std.specs.Prelude.{List, map, None, Some}
use Rattle.bus_line.specs.Report.{Kind, Report}
use Rattle.bus_pairing.specs.Seen.{SeenReport}
use Rattle.bus_pairing.specs.declared.logged_report.LoggedPiece.{LoggedPiece}
use Rattle.bus_pairing.specs.declared.logged_report.LoggedPiece.TheVariants.{Frame, Damaged, Overlong, Abort, Idle}
use Rattle.bus_pairing.specs.declared.logged_report.LoggedReport.{LoggedReport}
use Rattle.bus_pairing.specs.declared.pair_log.PairLogged.{PairLogged}

abbrev pub logged_piece : LoggedPiece → Report
logged_piece (Frame span octets) =
    record { kind = Kind.Frame octets.items; first = span.first; past = span.past }
logged_piece (Damaged span cause) = record { kind = Kind.Damaged cause; first = span.first; past = span.past }
logged_piece (Overlong span) = record { kind = Kind.Overlong; first = span.first; past = span.past }
logged_piece (Abort span) = record { kind = Kind.Abort; first = span.first; past = span.past }
logged_piece (Idle span) = record { kind = Kind.Idle; first = span.first; past = span.past }

abbrev pub logged_report : LoggedReport → SeenReport
logged_report r =
    record { line = None; report = logged_piece r.piece; standing = r.standing; verdict = r.verdict; stray = r.stray }

-- all reports of a log
abbrev pub logged_reports : List LoggedReport → List SeenReport
logged_reports rs = map logged_report rs

-- a report of one of two lines
abbrev pub logged_pair : PairLogged → SeenReport
logged_pair r = record (logged_report r.logged) { line = Some r.line }

-- all reports of a log of two lines
abbrev pub logged_pairs : List PairLogged → List SeenReport
logged_pairs rs = map logged_pair rs
