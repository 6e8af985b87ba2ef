-- When a run fails.
use Rattle.std.proofs.Common.{◌≡◌, ℕ, ◌+◌, ◌-◌, ◌≤◌, ◌<◌, ◌^◌, ◌↔◌, ◌⊎◌, Bool, List, [], ◌∷◌, ◌++◌, length, take, drop}
use Rattle.std.proofs.Common.{Result, Ok, Err, Some, None, refl, sym, ap, ◌∙◌, inl, inr, arith, length-append}
use Rattle.std.proofs.lemmas.Bool.{cases_lt}
use Rattle.std.proofs.lemmas.List.{length-map, take-append-drop}
use Rattle.bus_line.specs.Report.{moved}
use Rattle.bus_line.specs.Due.{reports, placed}
use Rattle.bus_line.specs.Laws.{ReportsGrow}
use Rattle.bus_dictionary.specs.Entry.{FrameType}
use Rattle.bus_dictionary.specs.Dictionary.{longest_of}
use Rattle.bus_pairing.specs.Sink.{SinkView}
use Rattle.bus_line.specs.LineReport.{LineReport, line_report, of_line}
use Rattle.bus_pairing.specs.Seen.{SeenReport, report_in, seen}
use Rattle.bus_watch.specs.Laws.{SeenAreReports}
use Rattle.bus_watch.specs.Fed.{ForSink}
use Rattle.bus_watch.specs.Headline.{Fails, StoppedAt, CanBeMade, all_seen}
use Rattle.bus_watch.specs.declared.fault.NewFault.{NewFault}
use Rattle.bus_watch.specs.declared.fault.NewFault.TheVariants.{DepthRange, Origin}
use Rattle.bus_watch.specs.declared.fault.FeedFault.{FeedFault}
use Rattle.bus_watch.specs.declared.fault.FeedFault.TheVariants.{PlaceLimit, Sink}
use Rattle.bus_watch.specs.declared.fault.RunFault.TheVariants.{Feed}

-- what was made could be made
pub made : {A : Type 0} (r : Result A NewFault) (a : A) (depth origin : ℕ) → r ≡ Ok a
    → (r ≡ Err DepthRange) ↔ ((depth < 1) ⊎ (1024 < depth)) →
    (r ≡ Err Origin) ↔ ((1 ≤ depth) × (depth ≤ 1024) × (2 ^ 60 < origin)) → CanBeMade depth origin
made r a depth origin is depth_refused origin_refused =
    elim (cases_lt depth 1) [
      | inl refused ↦ absurd (let same = depth_refused.1 (inl refused) in cc)
      | inr some ↦ elim (cases_lt 1024 depth) [
        | inl refused ↦ absurd (let same = depth_refused.1 (inr refused) in cc)
        | inr most ↦ elim (cases_lt (2 ^ 60) origin) [
          | inl refused ↦ absurd (let same = origin_refused.1 (some, most, refused) in cc)
          | inr near ↦ (some, most, near)
        ]
      ]
    ]

-- a fault of `feed`
pub feed-fails : {A : Type 0} (r : Result A FeedFault) (fault : FeedFault) (depth origin count : ℕ)
    (Stopped : ℕ → Type 0) → r ≡ Err fault
    → CanBeMade depth origin → (r ≡ Err PlaceLimit) ↔ (2 ^ 60 < origin + count) → ForSink fault Stopped →
    Fails depth origin count Stopped (Feed fault)
feed-fails r PlaceLimit depth origin count Stopped is can limit stopped = (can, limit.0 is)
feed-fails r (Sink consumed) depth origin count Stopped is can limit stopped =
    elim (cases_lt (2 ^ 60) (origin + count)) [
      | inl far ↦ absurd (let same = limit.1 far in cc)
      | inr near ↦ (can, near, stopped)
    ]

-- as many are seen as there are reports
seen-length : SeenAreReports → (d : List FrameType) (hs : List LineReport) → length (seen d hs) ≡ length hs
seen-length are d hs = sym (length-map (seen d hs) report_in) ∙ ap length (are d hs)

all_seen-length : SeenAreReports → (d : List FrameType) (origin : ℕ) (b : List Bool) →
    length (all_seen d origin b) ≡ length (reports (longest_of d) b)
all_seen-length are d origin b =
    seen-length are d (of_line (placed origin (longest_of d) b))
    ∙ length-map (placed origin (longest_of d) b) (line_report None)
    ∙ length-map (reports (longest_of d) b) (moved origin)

-- at the first bits no more is seen than at all
pub seen-within : SeenAreReports → ReportsGrow → (d : List FrameType) (origin n : ℕ) (b : List Bool) →
    length (all_seen d origin (take n b)) ≤ length (all_seen d origin b)
seen-within are grow d origin n b =
    let grown = grow (longest_of d) (take n b) (drop n b) in
    let whole : reports (longest_of d) b ≡ reports (longest_of d) (take n b) ++ grown.0 =
    ap (reports (longest_of d)) (sym (take-append-drop n b)) ∙ grown.1 in
    omega (
      arith,
      all_seen-length are d origin b,
      all_seen-length are d origin (take n b),
      ap length whole,
      length-append (reports (longest_of d) (take n b)) grown.0,
    )

-- a full log lacks one report at least
pub log-lacks : {S : Type 0} (sink : SinkView S) → SeenAreReports → ReportsGrow →
    (d : List FrameType) (origin room : ℕ) (b : List Bool) (s t : S) (consumed : ℕ) (rs : List SeenReport)
    → sink.taken s ≡ Some [] → sink.taken t ≡ Some rs → length rs ≡ room → StoppedAt sink d origin b s t consumed →
    room < length (all_seen d origin b)
log-lacks sink are grow d origin room b s t consumed rs start end full stopped =
    let took : Some rs ≡ Some (all_seen d origin (take (consumed - 1) b)) = sym end ∙ (stopped.took ∙ rw start refl) in
    let same : rs ≡ all_seen d origin (take (consumed - 1) b) = cc in
    omega (
      arith,
      full,
      ap length same,
      ap length stopped.refused,
      length-append (all_seen d origin (take (consumed - 1) b)) (stopped.lost ∷ []),
      seen-within are grow d origin consumed b,
    )

-- what follows from two facts of a sink's fault
pub for-sink : (fault : FeedFault) {P Q R : ℕ → Type 0} → ((n : ℕ) → P n → Q n → R n) → ForSink fault P →
    ForSink fault Q → ForSink fault R
for-sink PlaceLimit both first second = tt
for-sink (Sink consumed) both first second = both consumed first second
