-- The ledger of a finished list of bits, the steps of its reports included.
use Rattle.std.specs.Prelude.{◌≡◌, ℕ, ◌+◌, ◌*◌, Bool, List, length, sum_by}
use Rattle.bus_bits.specs.declared.spent.Spent.{Spent}
use Rattle.bus_line.specs.Report.{Kind, Frame, Report}
use Rattle.bus_line.specs.Due.{reports}
use Rattle.bus_line.specs.Ledger.{octet_count, assembled, stored, copied}
use Rattle.bus_line.specs.LineReport.{LineReport, firsts, seconds}

-- six for a frame: report, head, entry, pairing, tally and history; three for any other: report, pairing and tally
abbrev pub kind_steps : Kind → ℕ
kind_steps (Frame octets) = 6
kind_steps kind = 3

abbrev pub steps : Report → ℕ
steps r = kind_steps r.kind

abbrev pub handled : List Report → ℕ
handled rs = sum_by steps rs

-- of reports that came
abbrev pub handled_of : List LineReport → ℕ
handled_of hs = sum_by (λ (h : LineReport). steps h.report) hs

-- and the octets of their frames
abbrev pub copied_of : List LineReport → ℕ
copied_of hs = sum_by (λ (h : LineReport). octet_count h.report) hs

-- all steps
abbrev pub total : Spent → ℕ
total s = s.shifted + s.assembled + s.folded + s.stored + s.copied + s.handled

-- the counters of an analyser after the bits b, whose check costs so much an octet
pub record IsAnalyserLedger (cost longest : ℕ) (b : List Bool) (spent : Spent) : Type 0 where
  pub bits : spent.shifted ≡ length b
  pub settled : spent.assembled ≡ assembled b
  pub filled : spent.stored ≡ stored longest b
  pub paid : spent.folded ≡ cost * stored longest b
  pub kept : spent.copied ≡ copied longest b
  pub reported : spent.handled ≡ handled (reports longest b)

-- two counts of steps, added up
abbrev pub sum_of_steps : Spent → Spent → Spent
sum_of_steps s t = record {
  shifted = s.shifted + t.shifted;
  assembled = s.assembled + t.assembled;
  folded = s.folded + t.folded;
  stored = s.stored + t.stored;
  copied = s.copied + t.copied;
  handled = s.handled + t.handled;
}

-- the counters of an analyser of two lines: both ledgers, added up
pub record IsPairLedger (cost longest : ℕ) (ps : List (Bool × Bool)) (spent : Spent) : Type 0 where
  pub first : Spent
  pub second : Spent
  pub first_is : IsAnalyserLedger cost longest (firsts ps) first
  pub second_is : IsAnalyserLedger cost longest (seconds ps) second
  pub sum : spent ≡ sum_of_steps first second
