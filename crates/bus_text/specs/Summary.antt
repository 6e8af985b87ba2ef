-- How often each thing is seen.
use Rattle.std.specs.Prelude.{Bool, true, false, List, count_by, Option, Some, None}
use Rattle.bus_line.specs.Report.{Kind, Frame, Damaged, Overlong, Abort}
use Rattle.bus_pairing.specs.Talk.{is_idle_kind}
use Rattle.bus_pairing.specs.Seen.{SeenReport}
use Rattle.bus_pairing.specs.History.{is_outcome}
use Rattle.bus_pairing.specs.declared.outcome.Outcome.{Outcome}
use Rattle.bus_pairing.specs.declared.outcome.Outcome.TheVariants.{Answered, Late, Missing, Spoilt}
use Rattle.bus_pairing.specs.declared.verdict.Verdict.{Verdict}
use Rattle.bus_text.specs.declared.summary.Summary.{Summary}

abbrev pub shows_frame : Kind → Bool
shows_frame (Frame octets) = true
shows_frame kind = false

abbrev pub shows_damaged : Kind → Bool
shows_damaged (Damaged cause) = true
shows_damaged kind = false

abbrev pub shows_overlong : Kind → Bool
shows_overlong Overlong = true
shows_overlong kind = false

abbrev pub shows_abort : Kind → Bool
shows_abort Abort = true
shows_abort kind = false

-- a verdict with this outcome
abbrev pub has_outcome : Outcome → Option Verdict → Bool
has_outcome outcome None = false
has_outcome outcome (Some v) = is_outcome outcome v.outcome

-- how many of what is seen are of each kind, are strays, and decide each verdict
abbrev pub summary_of : List SeenReport → Summary
summary_of seen = record {
  frames = count_by (λ s. shows_frame s.report.kind) seen;
  damaged = count_by (λ s. shows_damaged s.report.kind) seen;
  overlong = count_by (λ s. shows_overlong s.report.kind) seen;
  aborts = count_by (λ s. shows_abort s.report.kind) seen;
  idles = count_by (λ s. is_idle_kind s.report.kind) seen;
  strays = count_by (λ s. s.stray) seen;
  answered = count_by (λ s. has_outcome Answered s.verdict) seen;
  missing = count_by (λ s. has_outcome Missing s.verdict) seen;
  spoilt = count_by (λ s. has_outcome Spoilt s.verdict) seen;
  late = count_by (λ s. has_outcome Late s.verdict) seen;
}
