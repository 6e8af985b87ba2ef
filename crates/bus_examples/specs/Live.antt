-- What single bits are asked about.
use Rattle.std.specs.Prelude.{ℕ, ◌==◌, Bool, false, ◌∷◌, Option, Some, None, option_and_then}
use Rattle.bus_line.specs.Report.{Kind, Frame, Report}
use Rattle.bus_pairing.specs.declared.outcome.Outcome.{Outcome}
use Rattle.bus_pairing.specs.declared.outcome.Outcome.TheVariants.{Answered}
use Rattle.bus_pairing.specs.declared.verdict.Verdict.{Verdict}

-- a frame of a station, which its first octet names
abbrev pub is_frame_of : ℕ → Kind → Bool
is_frame_of station (Frame (octet ∷ octets)) = octet == station
is_frame_of station kind = false

-- whether such a frame is reported
abbrev pub closes_for : ℕ → Option Report → Bool
closes_for station None = false
closes_for station (Some r) = is_frame_of station r.kind

-- the station of a command that was not answered in time
abbrev pub without_answer : Outcome → ℕ → Option ℕ
without_answer Answered station = None
without_answer outcome station = Some station

abbrev pub unanswered_in : Option Verdict → Option ℕ
unanswered_in verdict = option_and_then (λ (v : Verdict). without_answer v.outcome v.station) verdict
