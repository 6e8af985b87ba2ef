-- How many frames there are among some reports.
use Rattle.std.specs.Prelude.{ℕ, Bool, true, false, List, count_by}
use Rattle.bus_line.specs.Report.{Kind, Frame, Report}

abbrev pub is_frame : Kind → Bool
is_frame (Frame octets) = true
is_frame kind = false

abbrev pub frame_count : List Report → ℕ
frame_count rs = count_by (λ r. is_frame r.kind) rs
