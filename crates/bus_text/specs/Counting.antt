-- A summary with one report more.
use Rattle.std.specs.Prelude.{ℕ, ◌+◌, ◌≤◌, Bool, Option, if◌then◌else◌}
use Rattle.bus_line.specs.Report.{Kind}
use Rattle.bus_pairing.specs.Talk.{is_idle_kind}
use Rattle.bus_pairing.specs.Seen.{SeenReport}
use Rattle.bus_pairing.specs.declared.outcome.Outcome.TheVariants.{Answered, Late, Missing, Spoilt}
use Rattle.bus_pairing.specs.declared.verdict.Verdict.{Verdict}
use Rattle.bus_text.specs.declared.summary.Summary.{Summary}
use Rattle.bus_text.specs.Summary.{has_outcome, shows_abort, shows_damaged, shows_frame, shows_overlong}

-- one more, if it is so
abbrev pub one_more_if : Bool → ℕ → ℕ
one_more_if b n = if b then n + 1 else n

-- a piece of this kind is counted
abbrev pub with_kind : Kind → Summary → Summary
with_kind k s = record s {
  frames = one_more_if (shows_frame k) s.frames;
  damaged = one_more_if (shows_damaged k) s.damaged;
  overlong = one_more_if (shows_overlong k) s.overlong;
  aborts = one_more_if (shows_abort k) s.aborts;
  idles = one_more_if (is_idle_kind k) s.idles;
}

-- a verdict is counted
abbrev pub with_verdict : Option Verdict → Summary → Summary
with_verdict v s = record s {
  answered = one_more_if (has_outcome Answered v) s.answered;
  missing = one_more_if (has_outcome Missing v) s.missing;
  spoilt = one_more_if (has_outcome Spoilt v) s.spoilt;
  late = one_more_if (has_outcome Late v) s.late;
}

-- a stray is counted
abbrev pub with_stray : Bool → Summary → Summary
with_stray stray s = record s { strays = one_more_if stray s.strays }

-- one report more is counted
abbrev pub with_seen : SeenReport → Summary → Summary
with_seen r s = with_stray r.stray (with_verdict r.verdict (with_kind r.report.kind s))

-- no count is above this number
pub record IsFew (most : ℕ) (s : Summary) : Type 0 where
  pub frames : s.frames ≤ most
  pub damaged : s.damaged ≤ most
  pub overlong : s.overlong ≤ most
  pub aborts : s.aborts ≤ most
  pub idles : s.idles ≤ most
  pub strays : s.strays ≤ most
  pub answered : s.answered ≤ most
  pub missing : s.missing ≤ most
  pub spoilt : s.spoilt ≤ most
  pub late : s.late ≤ most
