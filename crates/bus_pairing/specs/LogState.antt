-- What contracts see of a log: the reports that it took, how many it has room for, and how often it refused.
use Rattle.std.specs.Prelude.{ℕ, List, Some}
use Rattle.bus_pairing.specs.Seen.{SeenReport}
use Rattle.bus_pairing.specs.Sink.{SinkView}

pub record LogState : Type 0 where
  pub reports : List SeenReport
  pub room : ℕ
  pub refusals : ℕ

-- a log is a sink that tells all
abbrev pub log_sink : SinkView LogState
log_sink = record { taken = λ log. Some log.reports; room = λ log. Some log.room; refusals = λ log. log.refusals }
