-- The headline: what a whole run comes to, from a new analyser on.
use Rattle.std.specs.Prelude.{◌≡◌, ℕ, ◌+◌, ◌-◌, ◌*◌, ◌≤◌, ◌<◌, ◌⊎◌, Bool, List, [], ◌∷◌, ◌++◌, length, map, take}
use Rattle.std.specs.Borrow.{Bor}
use Rattle.std.specs.List.{flat_map}
use Rattle.bus_bits.specs.Limits.{most_places}
use Rattle.bus_fcs.specs.Check.{CheckView}
use Rattle.bus_line.specs.Due.{placed}
use Rattle.bus_line.specs.Ledger.{stored_open}
use Rattle.bus_line.specs.Report.{Report, AreReports, moved}
use Rattle.bus_dictionary.specs.Entry.{FrameType}
use Rattle.bus_dictionary.specs.Dictionary.{longest_of}
use Rattle.bus_line.specs.LineReport.{of_line}
use Rattle.bus_pairing.specs.Seen.{SeenReport, report_in, seen}
use Rattle.bus_pairing.specs.History.{KeptFrame, history}
use Rattle.bus_pairing.specs.Ledger.{IsAnalyserLedger, total}
use Rattle.bus_line.specs.Told.{told}
use Rattle.bus_pairing.specs.Sink.{SinkView}
use Rattle.bus_watch.specs.After.{AnalyserState, IsAfter, one_line}
use Rattle.bus_watch.specs.Laws.{joined, Runs}
use Rattle.bus_watch.specs.declared.usage.Usage.{Usage}
use Rattle.bus_watch.specs.declared.fault.NewFault.TheVariants.{DepthRange, Origin, Memory}
use Rattle.bus_watch.specs.declared.fault.FeedFault.TheVariants.{PlaceLimit, Sink}
use Rattle.bus_watch.specs.declared.fault.RunFault.{RunFault}
use Rattle.bus_watch.specs.declared.fault.RunFault.TheVariants.{New, Feed}

-- what is seen of the bits b, the first of which has the place `origin`, by the dictionary d
abbrev pub all_seen : List FrameType → ℕ → List Bool → List SeenReport
all_seen d origin b = seen d (of_line (placed origin (longest_of d) b))

-- what an analyser comes to that took the bits b: the reports that it told, the frames of its history, and its usage
pub record Headline
    (cost : ℕ) (d : List FrameType) (depth origin : ℕ) (b : List Bool)
    (reports : List SeenReport) (frames : List KeptFrame) (usage : Usage) : Type 0 where
  -- it told exactly what is seen of all the bits: each report, with its places and with what follows from it, in order
  pub told : reports ≡ all_seen d origin b
  -- and that is the list's frames, damaged pieces, overlong pieces, aborts and idles, all of them and no others, by
  -- rising due place, each moved on by the origin
  pub framing : (rs : List Report) × AreReports (longest_of d) b rs
      × (map report_in reports ≡ of_line (map (moved origin) rs))
  -- the frame buffer never has more octets than the longest frame and two: those of the open piece so far
  pub buffer_bound : usage.buffered ≤ longest_of d + 2
  pub buffered : usage.buffered ≡ stored_open (longest_of d) b
  -- the history is the last frames, never more than its depth
  pub history : frames ≡ history depth (of_line (placed origin (longest_of d) b))
  pub history_len : usage.history_len ≡ length frames
  pub history_bound : usage.history_len ≤ depth
  -- the steps are those of the ledger: at most seventeen for each bit, even at most four, and at most three where the
  -- check costs one an octet
  pub ledger : IsAnalyserLedger cost (longest_of d) b usage.spent
  pub seventeen : total usage.spent ≤ 17 * length b
  pub four : total usage.spent ≤ 4 * length b
  pub three : cost ≡ 1 → total usage.spent ≤ 3 * length b

-- the frames of an analyser's history, as `history` lends them
abbrev pub kept_frames : {C : Type 0} → AnalyserState C → List KeptFrame
kept_frames a = a.conversation.history

-- the headline of any run of calls that leads from an analyser that took no bit to this one
abbrev pub WholeRun : {C : Type 0} → CheckView C → AnalyserState C → Usage → Type 0
WholeRun {C} view end usage =
    (start : AnalyserState C) (pieces : List (List Bool)) (tolds : List (List SeenReport))
    → IsAfter view start [] → Runs (one_line view) start pieces tolds end
    → Headline view.cost start.conversation.dictionary start.conversation.depth start.decoder.origin
    (joined pieces) (joined tolds) (kept_frames end) usage

-- the bits of pieces that are lent, one after the other
abbrev pub bits_in : List (Bor (List Bool)) → List Bool
bits_in pieces = flat_map (λ p. p.now) pieces

-- a sink refused the report that the last of the first `consumed` bits decides, and took all those before
pub record StoppedAt
    {S : Type 0} (sink : SinkView S) (d : List FrameType) (origin : ℕ) (b : List Bool)
    (before after : S) (consumed : ℕ) : Type 0 where
  pub some : 0 < consumed
  pub within : consumed ≤ length b
  pub took : sink.taken after ≡ told (sink.taken before) (all_seen d origin (take (consumed - 1) b))
  pub lost : SeenReport
  pub refused : all_seen d origin (take consumed b) ≡ all_seen d origin (take (consumed - 1) b) ++ lost ∷ []

-- an analyser can be made with this depth and this origin
abbrev pub CanBeMade : ℕ → ℕ → Type 0
CanBeMade depth origin = (1 ≤ depth) × (depth ≤ 1024) × (origin ≤ most_places)

-- when a run over `count` bits fails. No two cases hold at once, but that want of memory may come in place of a fault
-- of `Feed`; and a run that is Ok is in none of them but that one
abbrev pub Fails : ℕ → ℕ → ℕ → (ℕ → Type 0) → RunFault → Type 0
Fails depth origin count Stopped (New DepthRange) = (depth < 1) ⊎ (1024 < depth)
Fails depth origin count Stopped (New Origin) = (1 ≤ depth) × (depth ≤ 1024) × (most_places < origin)
Fails depth origin count Stopped (New Memory) = CanBeMade depth origin
Fails depth origin count Stopped (Feed PlaceLimit) = CanBeMade depth origin × (most_places < origin + count)
Fails depth origin count Stopped (Feed (Sink consumed)) =
    CanBeMade depth origin × (origin + count ≤ most_places) × Stopped consumed

-- a fact of each fault but that of a sink
abbrev pub UnlessStopped : Type 0 → RunFault → Type 0
UnlessStopped P (New fault) = P
UnlessStopped P (Feed PlaceLimit) = P
UnlessStopped P (Feed (Sink consumed)) = Unit {0}
