-- A log's fields, as they are seen.
use Rattle.std.specs.Vec.{vec_capacity}
use Rattle.bus_pairing.specs.LogState.{LogState}
use Rattle.bus_pairing.specs.LoggedReport.{logged_reports, logged_pairs}
use Rattle.bus_pairing.specs.declared.pair_log.PairLog.TheInside as PairLog
use Rattle.bus_pairing.specs.declared.report_log.ReportLog.TheInside.{Inside}

abbrev pub log_state : Inside → LogState
log_state l = record { reports = logged_reports l.reports.items; room = vec_capacity l.reports; refusals = l.refusals }

-- and those of a log of two lines
abbrev pub pair_log_state : PairLog.Inside → LogState
pair_log_state l =
    record { reports = logged_pairs l.reports.items; room = vec_capacity l.reports; refusals = l.refusals }
