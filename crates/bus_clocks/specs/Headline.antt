-- The headline for two clocks: what a whole run comes to, from a new analyser on.
use Rattle.std.specs.Prelude.{◌≡◌, ℕ, ◌+◌, ◌-◌, ◌*◌, ◌≤◌, ◌<◌, ◌⊎◌, List, [], ◌∷◌, ◌++◌, length, map, take}
use Rattle.bus_bits.specs.Limits.{most_places}
use Rattle.bus_fcs.specs.Check.{CheckView}
use Rattle.bus_line.specs.Ledger.{stored_open}
use Rattle.bus_line.specs.Report.{Report, AreReports, moved}
use Rattle.bus_dictionary.specs.Entry.{FrameType}
use Rattle.bus_dictionary.specs.Dictionary.{longest_of}
use Rattle.bus_line.specs.LineReport.{of_side}
use Rattle.bus_pairing.specs.Ledger.{total}
use Rattle.bus_pairing.specs.Seen.{SeenReport, report_in, seen}
use Rattle.bus_pairing.specs.History.{KeptFrame, history}
use Rattle.bus_line.specs.declared.line.Line.TheVariants.{First, Second}
use Rattle.bus_line.specs.Told.{told}
use Rattle.bus_pairing.specs.Sink.{SinkView}
use Rattle.bus_watch.specs.Headline.{CanBeMade}
use Rattle.bus_watch.specs.Laws.{joined, Runs}
use Rattle.bus_watch.specs.declared.fault.NewFault.TheVariants.{DepthRange, Origin, Memory}
use Rattle.bus_watch.specs.declared.fault.FeedFault.TheVariants.{PlaceLimit, Sink}
use Rattle.bus_watch.specs.declared.fault.RunFault.{RunFault}
use Rattle.bus_watch.specs.declared.fault.RunFault.TheVariants.{New, Feed}
use Rattle.bus_watch.specs.declared.pair.usage.PairUsage.{PairUsage}
use Rattle.bus_tap.specs.Arrival.{Arrival, own}
use Rattle.bus_tap.specs.Arrival.{at_places, arrived}
use Rattle.bus_clocks.specs.Clocks.{ClockState, IsAfterArrivals, two_clocks}
use Rattle.bus_clocks.specs.Ledger.{IsClockLedger}

-- what is seen of these arrivals, the first line's first bit having the place `origin`, by the dictionary d
abbrev pub all_seen_of_arrivals : List FrameType → ℕ → List Arrival → List SeenReport
all_seen_of_arrivals d origin xs = seen d (arrived origin (longest_of d) xs)

-- what an analyser of two clocks comes to after these arrivals: the reports that it showed, the frames of its history,
-- and its usage
pub record ClockHeadline (cost : ℕ) (d : List FrameType) (depth origin : ℕ) (xs : List Arrival)
    (reports : List SeenReport) (frames : List KeptFrame) (usage : PairUsage) : Type 0 where
  -- it showed exactly what is seen of both lines, in the order in which it is decided
  pub shown : reports ≡ all_seen_of_arrivals d origin xs
  -- and of either line that is its frames, damaged pieces, overlong pieces, aborts and idles, all of them and no
  -- others; whatever the clocks do, the second line is decoded from its own bits, and stands in places of the first
  pub first_framing : (rs : List Report) × AreReports (longest_of d) (own First xs) rs
      × (of_side First (map report_in reports) ≡ map (moved origin) rs)
  pub second_framing : (rs : List Report) × AreReports (longest_of d) (own Second xs) rs
      × (of_side Second (map report_in reports) ≡ map (λ r. moved origin (at_places xs r)) rs)
  -- neither frame buffer ever has more octets than the longest frame and two: those of the line's open piece so far
  pub first_bound : usage.first_buffered ≤ longest_of d + 2
  pub second_bound : usage.second_buffered ≤ longest_of d + 2
  pub first_buffered : usage.first_buffered ≡ stored_open (longest_of d) (own First xs)
  pub second_buffered : usage.second_buffered ≡ stored_open (longest_of d) (own Second xs)
  -- the one history is the last frames of both lines, never more than its depth
  pub history : frames ≡ history depth (arrived origin (longest_of d) xs)
  pub history_len : usage.history_len ≡ length frames
  pub history_bound : usage.history_len ≤ depth
  -- the steps are those of both ledgers: at most four for each bit of either line, and at most three where the check
  -- costs one an octet
  pub ledger : IsClockLedger cost (longest_of d) xs usage.spent
  pub four : total usage.spent ≤ 4 * length xs
  pub three : cost ≡ 1 → total usage.spent ≤ 3 * length xs

-- the headline of any run of calls that leads from a new analyser to this one
abbrev pub WholeClockRun : {C : Type 0} → CheckView C → ClockState C → PairUsage → Type 0
WholeClockRun {C} view end usage =
    (start : ClockState C) (pieces : List (List Arrival)) (shown : List (List SeenReport))
    → IsAfterArrivals view start [] → Runs (two_clocks view) start pieces shown end
    → ClockHeadline view.cost start.conversation.dictionary start.conversation.depth start.first.origin
    (joined pieces) (joined shown) end.conversation.history usage

-- a sink refused the report that the last of the first `consumed` arrivals decides, and has all those before
pub record StoppedAtArrival
    {S : Type 0} (sink : SinkView S) (d : List FrameType) (origin : ℕ) (xs : List Arrival)
    (before after : S) (consumed : ℕ) : Type 0 where
  pub some : 0 < consumed
  pub within : consumed ≤ length xs
  pub others : sink.taken after ≡ told (sink.taken before) (all_seen_of_arrivals d origin (take (consumed - 1) xs))
  pub lost : SeenReport
  pub refused : all_seen_of_arrivals d origin (take consumed xs)
      ≡ all_seen_of_arrivals d origin (take (consumed - 1) xs) ++ lost ∷ []

-- all these arrivals have places
pub record HavePlaces (origin : ℕ) (xs : List Arrival) : Type 0 where
  pub first : origin + length (own First xs) ≤ most_places
  pub second : length (own Second xs) ≤ most_places

-- when a run over these arrivals fails. No two cases hold at once, but that want of memory may come in place of a fault
-- of `Feed`; and a run that is Ok is in none of them but that one
abbrev pub ClockFails : ℕ → ℕ → List Arrival → (ℕ → Type 0) → RunFault → Type 0
ClockFails depth origin xs Stopped (New DepthRange) = (depth < 1) ⊎ (1024 < depth)
ClockFails depth origin xs Stopped (New Origin) = (1 ≤ depth) × (depth ≤ 1024) × (most_places < origin)
ClockFails depth origin xs Stopped (New Memory) = CanBeMade depth origin
ClockFails depth origin xs Stopped (Feed PlaceLimit) = CanBeMade depth origin
    × ((most_places < origin + length (own First xs)) ⊎ (most_places < length (own Second xs)))
ClockFails depth origin xs Stopped (Feed (Sink consumed)) =
    CanBeMade depth origin × HavePlaces origin xs × Stopped consumed
