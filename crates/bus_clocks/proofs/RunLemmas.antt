-- What a whole run over two clocks comes to where it was fed, and when it fails.
use Rattle.std.proofs.Common.{◌≡◌, ℕ, ◌+◌, ◌-◌, ◌<◌, ◌≤◌, ◌^◌, ◌⊎◌, ◌↔◌, List, [], ◌∷◌, ◌++◌, length, take, Result, Err}
use Rattle.std.proofs.Common.{sym, refl, ap, ◌∙◌, subst, inl, inr, append-nil, arith, length-append, length-take}
use Rattle.std.proofs.lemmas.List.{take-take, length-map}
use Rattle.bus_fcs.specs.Check.{CheckView}
use Rattle.bus_line.specs.Told.{told}
use Rattle.bus_dictionary.specs.Entry.{FrameType}
use Rattle.bus_dictionary.specs.Dictionary.{longest_of}
use Rattle.bus_line.specs.LineReport.{LineReport}
use Rattle.bus_pairing.specs.Seen.{SeenReport, report_in, seen}
use Rattle.bus_pairing.specs.Sink.{SinkView}
use Rattle.bus_line.specs.declared.line.Line.TheVariants.{First, Second}
use Rattle.bus_watch.specs.Fed.{FedBy, RefusedByAt, Lacks, none, took, refused, ForSink}
use Rattle.bus_watch.specs.Headline.{CanBeMade}
use Rattle.bus_watch.specs.Laws.{SeenAreReports, ended, called}
use Rattle.bus_watch.specs.declared.fault.FeedFault.{FeedFault}
use Rattle.bus_watch.specs.declared.fault.FeedFault.TheVariants.{PlaceLimit, Sink}
use Rattle.bus_watch.specs.declared.fault.RunFault.TheVariants.{Feed}
use Rattle.bus_watch.specs.declared.pair.usage.PairUsage.{PairUsage}
use Rattle.bus_tap.specs.Arrival.{Arrival, own, arrived, decides}
use Rattle.bus_clocks.specs.Clocks.{ClockState, IsAfterArrivals, ExceedsPlaces, two_clocks}
use Rattle.bus_clocks.specs.Headline.{ClockHeadline, WholeClockRun, StoppedAtArrival, ClockFails, all_seen_of_arrivals}
use Rattle.bus_tap.specs.Laws.{ArrivalsGrow}
use Rattle.bus_clocks.proofs.FeedLemmas.{arrival_at, front-more, room-all}
use Rattle.bus_clocks.proofs.RoomLemmas.{decides-few}

-- what was fed to a new analyser is a whole run
pub fed-clock-headline : {C S : Type 0} (view : CheckView C) (sink : SinkView S)
    (a e : ClockState C) (xs : List Arrival) (s t : S) (u : PairUsage)
    → IsAfterArrivals view a [] → (f : FedBy (two_clocks view) sink a xs e s t) → WholeClockRun view e u
    → ClockHeadline view.cost a.conversation.dictionary a.conversation.depth a.first.origin xs f.seen
    e.conversation.history u
fed-clock-headline view sink a e xs s t u new fed whole =
    let d = a.conversation.dictionary in
    let depth = a.conversation.depth in
    let origin = a.first.origin in
    let headline = whole a (xs ∷ []) (fed.seen ∷ []) new (called a e e xs fed.seen [] [] fed.sees (ended e)) in
    subst (λ x. ClockHeadline view.cost d depth origin x fed.seen e.conversation.history u) (append-nil xs)
    (subst (λ y. ClockHeadline view.cost d depth origin (xs ++ []) y e.conversation.history u) (append-nil fed.seen)
    headline)

-- an arrival shows one report at most
seen-length : SeenAreReports → (d : List FrameType) (hs : List LineReport) → length (seen d hs) ≡ length hs
seen-length are d hs = sym (length-map (seen d hs) report_in) ∙ ap length (are d hs)

seen-few : SeenAreReports → ArrivalsGrow → (d : List FrameType) (origin n : ℕ) (xs : List Arrival) → 0 < n →
    n ≤ length xs →
    length (all_seen_of_arrivals d origin (take n xs)) ≤ length (all_seen_of_arrivals d origin (take (n - 1) xs)) + 1
seen-few are grow d origin n xs some within =
    let longest = longest_of d in
    let front = take (n - 1) xs in
    let x = arrival_at xs (n - 1) in
    let index : n - 1 + 1 ≡ n = omega (arith, some) in
    let all : take n xs ≡ front ++ x ∷ [] =
    ap (λ k. take k xs) (sym index) ∙ front-more xs (n - 1) (omega (arith, some, within)) in
    omega (
      arith,
      seen-length are d (arrived origin longest (take n xs)),
      seen-length are d (arrived origin longest front),
      ap (λ ys. length (arrived origin longest ys)) all,
      ap length (grow origin longest front x),
      length-append (arrived origin longest front) (decides origin longest front x),
      decides-few origin longest front x,
    )

-- so where one was refused no other was shown
record LostOne (at_last of_last : List SeenReport) : Type 0 where
  pub lost : SeenReport
  pub alone : at_last ≡ lost ∷ []
  pub no_other : of_last ≡ []

lost-one : (at_last of_last : List SeenReport) (n : ℕ) → Lacks at_last of_last n → n ≡ 1 → length at_last ≤ 1 →
    LostOne at_last of_last
lost-one _ _ _ none one few = absurd (omega (arith, one))
lost-one _ _ n (took s ss ts _ rest) one few = absurd (omega (arith, refusals ss ts n rest, one, few))
  where
    refusals : (xs ys : List SeenReport) (m : ℕ) → Lacks xs ys m → m ≤ length xs
    refusals _ _ _ none = omega arith
    refusals _ _ m (took x xs ys _ more) = omega (arith, refusals xs ys m more)
    refusals _ _ _ (refused x xs ys m more) = omega (arith, refusals xs ys m more)
lost-one _ _ _ (refused s [] ts n none) one few = record { lost = s; alone = refl; no_other = refl }
lost-one _ _ _ (refused s (x ∷ ss) ts n rest) one few = absurd (omega (arith, few))

-- where a sink refused a report of what a new analyser was fed
pub stopped-at-arrival : {C S : Type 0} (view : CheckView C) (sink : SinkView S)
    (a e : ClockState C) (xs : List Arrival) (s t : S) (consumed : ℕ) → SeenAreReports → ArrivalsGrow
    → IsAfterArrivals view a [] → RefusedByAt (two_clocks view) sink 1 a xs consumed e s t
    → StoppedAtArrival sink a.conversation.dictionary a.first.origin xs s t consumed
stopped-at-arrival view sink a e xs s t consumed are grow new at =
    let refused = at.refused in
    let d = a.conversation.dictionary in
    let origin = a.first.origin in
    let count : length (take consumed xs) - 1 ≡ consumed - 1 = omega (arith, at.within, length-take consumed xs) in
    let front : take (length (take consumed xs) - 1) (take consumed xs) ≡ take (consumed - 1) xs =
    ap (λ k. take k (take consumed xs)) count ∙ take-take (consumed - 1) consumed xs (omega arith) in
    let before : all_seen_of_arrivals d origin (take (consumed - 1) xs) ≡ refused.seen =
    ap (all_seen_of_arrivals d origin) (sym front) ∙ refused.front [] new in
    let seen_then : all_seen_of_arrivals d origin (take consumed xs)
    ≡ all_seen_of_arrivals d origin (take (consumed - 1) xs) ++ refused.at_last =
    refused.sees.seen [] new ∙ ap (λ ys. ys ++ refused.at_last) (sym before) in
    let few : length refused.at_last ≤ 1 = omega (
      arith,
      seen-few are grow d origin consumed xs at.some at.within,
      ap length seen_then,
      length-append (all_seen_of_arrivals d origin (take (consumed - 1) xs)) refused.at_last,
    ) in
    let one = lost-one refused.at_last refused.of_last 1 refused.lacks refl few in
    record {
      some = at.some;
      within = at.within;
      others = refused.took ∙ (ap (λ ys. told (sink.taken s) (refused.seen ++ ys)) one.no_other
          ∙ (ap (told (sink.taken s)) (append-nil refused.seen) ∙ ap (told (sink.taken s)) (sym before)));
      lost = one.lost;
      refused = seen_then ∙ ap (λ ys. all_seen_of_arrivals d origin (take (consumed - 1) xs) ++ ys) one.alone;
    }

-- a fault of `feed`
pub clock-fails : {A C : Type 0} (r : Result A FeedFault) (fault : FeedFault) (depth origin : ℕ) (a : ClockState C)
    (xs : List Arrival) (Stopped : ℕ → Type 0) → r ≡ Err fault → CanBeMade depth origin →
    (r ≡ Err PlaceLimit) ↔ ExceedsPlaces a xs → a.first.place ≡ origin → a.second.place ≡ 0 → ForSink fault Stopped →
    ClockFails depth origin xs Stopped (Feed fault)
clock-fails r PlaceLimit depth origin a xs Stopped is can limit first second stopped = (
  can,
  subst (λ n. (2 ^ 60 < n + length (own First xs)) ⊎ (2 ^ 60 < length (own Second xs))) first
      (elim (limit.0 is) [ inl far ↦ inl far | inr far ↦ inr (omega (arith, far, second)) ]),
)
clock-fails r (Sink consumed) depth origin a xs Stopped is can limit first second stopped =
    let room = room-all a xs (λ runs. (let same = limit.1 runs in absurd (cc))) in
    (can, record { first = omega (arith, room First, first); second = omega (arith, room Second, second) }, stopped)
