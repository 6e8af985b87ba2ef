-- The headline for two lines: what a whole run comes to, from a new analyser on.
use Rattle.std.specs.Prelude.{◌≡◌, ℕ, ◌+◌, ◌-◌, ◌*◌, ◌≤◌, ◌<◌, Bool, List, [], ◌++◌, length, map, take}
use Rattle.bus_fcs.specs.Check.{CheckView}
use Rattle.bus_line.specs.Ledger.{stored_open}
use Rattle.bus_line.specs.Report.{Report, AreReports, moved}
use Rattle.bus_dictionary.specs.Entry.{FrameType}
use Rattle.bus_dictionary.specs.Dictionary.{longest_of}
use Rattle.bus_line.specs.LineReport.{firsts, seconds, merged, of_side}
use Rattle.bus_pairing.specs.Seen.{SeenReport, report_in, seen}
use Rattle.bus_watch.specs.Fed.{Lacks}
use Rattle.bus_pairing.specs.History.{KeptFrame, history}
use Rattle.bus_pairing.specs.Ledger.{IsPairLedger, total}
use Rattle.bus_line.specs.Told.{told}
use Rattle.bus_pairing.specs.Sink.{SinkView}
use Rattle.bus_watch.specs.Pairs.{PairState, IsAfterPairs, two_lines}
use Rattle.bus_watch.specs.Laws.{joined, Runs}
use Rattle.bus_line.specs.declared.line.Line.TheVariants.{First, Second}
use Rattle.bus_watch.specs.declared.pair.usage.PairUsage.{PairUsage}

-- what is seen of these pairs, the first of which has the place `origin`, by the dictionary d
abbrev pub all_seen_on_both : List FrameType → ℕ → List (Bool × Bool) → List SeenReport
all_seen_on_both d origin ps = seen d (merged origin (longest_of d) ps)

-- what an analyser of two lines comes to that took these pairs: the reports that it told, the frames of its history,
-- and its usage
pub record PairHeadline
    (cost : ℕ) (d : List FrameType) (depth origin : ℕ) (ps : List (Bool × Bool))
    (reports : List SeenReport) (frames : List KeptFrame) (usage : PairUsage) : Type 0 where
  -- it told exactly what is seen of both lines: each report, by due place, the first line's first where both have one
  pub told : reports ≡ all_seen_on_both d origin ps
  -- and of either line that is its frames, damaged pieces, overlong pieces, aborts and idles, all of them and no others
  pub first_framing : (rs : List Report) × AreReports (longest_of d) (firsts ps) rs
      × (of_side First (map report_in reports) ≡ map (moved origin) rs)
  pub second_framing : (rs : List Report) × AreReports (longest_of d) (seconds ps) rs
      × (of_side Second (map report_in reports) ≡ map (moved origin) rs)
  -- neither frame buffer ever has more octets than the longest frame and two: those of the line's open piece so far
  pub first_bound : usage.first_buffered ≤ longest_of d + 2
  pub second_bound : usage.second_buffered ≤ longest_of d + 2
  pub first_buffered : usage.first_buffered ≡ stored_open (longest_of d) (firsts ps)
  pub second_buffered : usage.second_buffered ≡ stored_open (longest_of d) (seconds ps)
  -- the one history is the last frames of both lines, never more than its depth
  pub history : frames ≡ history depth (merged origin (longest_of d) ps)
  pub history_len : usage.history_len ≡ length frames
  pub history_bound : usage.history_len ≤ depth
  -- the steps are those of both ledgers: at most seventeen for each bit of either line, even at most four, and at most
  -- three where the check costs one an octet
  pub ledger : IsPairLedger cost (longest_of d) ps usage.spent
  pub seventeen : total usage.spent ≤ 17 * (2 * length ps)
  pub four : total usage.spent ≤ 4 * (2 * length ps)
  pub three : cost ≡ 1 → total usage.spent ≤ 3 * (2 * length ps)

-- the headline of any run of calls that leads from an analyser that took no pair to this one
abbrev pub WholePairRun : {C : Type 0} → CheckView C → PairState C → PairUsage → Type 0
WholePairRun {C} view end usage =
    (start : PairState C) (pieces : List (List (Bool × Bool))) (tolds : List (List SeenReport))
    → IsAfterPairs view start [] → Runs (two_lines view) start pieces tolds end
    → PairHeadline view.cost start.conversation.dictionary start.conversation.depth start.first.origin
    (joined pieces) (joined tolds) end.conversation.history usage

-- a sink refused so many of the reports that the last of the first `consumed` pairs decides, and took all others
pub record StoppedAtPair
    {S : Type 0} (sink : SinkView S) (refusals : ℕ) (d : List FrameType) (origin : ℕ)
    (ps : List (Bool × Bool)) (before after : S) (consumed : ℕ) : Type 0 where
  pub some : 0 < consumed
  pub within : consumed ≤ length ps
  pub at_last : List SeenReport
  pub of_last : List SeenReport
  pub seen : all_seen_on_both d origin (take consumed ps)
      ≡ all_seen_on_both d origin (take (consumed - 1) ps) ++ at_last
  pub some_refused : 0 < refusals
  pub lacks : Lacks at_last of_last refusals
  pub took : sink.taken after ≡ told (sink.taken before) (all_seen_on_both d origin (take (consumed - 1) ps) ++ of_last)
