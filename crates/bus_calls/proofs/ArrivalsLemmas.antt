-- Captures of two lines with a clock each.
use Rattle.std.proofs.Common.{◌≡◌, ℕ, ◌+◌, ◌-◌, ◌≤◌, Bool, List, [], ◌∷◌, ◌++◌, length, map, zip, Option, Result, Ok}
use Rattle.std.proofs.Common.{Err}
use Rattle.std.proofs.Common.{MatchResult}
use Rattle.std.proofs.Common.{refl, sym, ap, ◌∙◌, subst, arith, append-nil, append_assoc}
use Rattle.std.proofs.lemmas.List.{map-append}
use Rattle.bus_formats.specs.Packed.{packed_arrival_capture, packed_arrival_whole, pair_body, arrival_head_fault}
use Rattle.bus_bits.specs.Bits.{bits_from}
use Rattle.bus_fcs.specs.Check.{CheckView}
use Rattle.bus_dictionary.specs.Entry.{FrameType}
use Rattle.bus_line.specs.LineReport.{LineReport}
use Rattle.bus_pairing.specs.Seen.{SeenReport, seen}
use Rattle.bus_pairing.proofs.SeenLemmas.{seen-more}
use Rattle.bus_watch.specs.Watch.{AdvancesWatchShown}
use Rattle.bus_tap.specs.Arrival.{Arrival, arrival_of, arrived, decides}
use Rattle.bus_clocks.specs.Clocks.{IsAfterArrivals, bits_taken, two_clocks}
use Rattle.bus_tap.specs.Laws.{ArrivalsGrow}
use Rattle.bus_tap.specs.Rested.{IsRestAfter, RestState, comes_to_rest, rested, fill}
use Rattle.bus_tap.proofs.ArrivalLemmas.{symbols-more}
use Rattle.bus_tap.proofs.RestLemmas.{rested-more}
use Rattle.bus_clocks.proofs.RoomLemmas.{own-count}
use Rattle.bus_text.specs.declared.fault.ToolFault.{ToolFault}
use Rattle.bus_calls.specs.Captures.{form_of_arrivals}
use Rattle.bus_calls.specs.Internal.Arrivals.{RestsAfter, arrivals_kind, clocks_behind}
use Rattle.bus_calls.specs.Internal.Kinds.{FedOn, KindLaws}
use Rattle.bus_calls.specs.Internal.Watching.{FeedStopsWith, FeedAfter, WatchStopsWith, WatchAfter}
use Rattle.bus_calls.specs.declared.arrivals.ClockAnalyser.{ClockAnalyser}
use Rattle.bus_calls.specs.declared.run.CaptureRun.{CaptureRun}
use Rattle.bus_calls.proofs.HeadedLemmas.{whole-bits}
use Rattle.bus_calls.proofs.WatchingLemmas.{feed-halts-more}

-- the end of the input adds no arrival
pub same_arrivals : (xs : List ℕ) → (packed_arrival_whole xs).bits ≡ (packed_arrival_capture xs).bits
unfolding packed_arrival_whole packed_arrival_capture
same_arrivals xs = whole-bits (arrival_head_fault xs) pair_body xs

-- ---- the rule of rest

record RestsOn (most : ℕ) (xs ys : List Arrival) : Type 0 where
  taken : List Arrival
  is : rested most (xs ++ ys) ≡ rested most xs ++ taken

rests-on : (most : ℕ) (xs ys : List Arrival) → RestsOn most xs ys
rests-on most xs [] =
    record { taken = []; is = ap (rested most) (append-nil xs) ∙ sym (append-nil (rested most xs)) }
rests-on most xs (y ∷ ys) =
    let on = rests-on most (xs ++ y ∷ []) ys in
    let comes = comes_to_rest most (rested most xs ++ y ∷ []) in
    let one = y ∷ fill comes in
    record {
      taken = one ++ on.taken;
      is = ap (rested most) (sym (append_assoc xs (y ∷ []) ys)) ∙ on.is
          ∙ ap (λ (zs : List Arrival). zs ++ on.taken) (rested-more most xs y comes refl)
          ∙ append_assoc (rested most xs) one on.taken;
    }

pub fed-on : (rest : ℕ) (b more : List (Bool × Bool)) → FedOn form_of_arrivals rest b more
fed-on rest b more =
    let on = rests-on rest (map arrival_of b) (map arrival_of more) in
    record { taken = on.taken; is = ap (rested rest) (map-append arrival_of b more) ∙ on.is }

-- the rule takes the arrivals of some symbols more
pub rests-more : (r q : RestState) (b more : List (Bool × Bool)) (ys zs : List Arrival) → q.most ≡ r.most
    → ys ≡ map arrival_of more
    → rested r.most (map arrival_of b ++ ys) ≡ rested r.most (map arrival_of b) ++ zs
    → IsRestAfter q (map arrival_of b ++ ys)
    → RestsAfter q (b ++ more) (rested r.most (map arrival_of b) ++ zs)
rests-more r q b more ys zs most are gives after =
    let all : map arrival_of (b ++ more) ≡ map arrival_of b ++ ys =
    map-append arrival_of b more ∙ ap (λ (xs : List Arrival). map arrival_of b ++ xs) (sym are) in
    record { after = rw all after; rested = rw (all, most) gives }

-- ---- what is seen

pub reports-on : (d : List FrameType) (hs more : List LineReport) → (rest : List SeenReport)
    × (seen d (hs ++ more) ≡ seen d hs ++ rest)
reports-on d hs [] = ([], ap (seen d) (append-nil hs) ∙ sym (append-nil (seen d hs)))
reports-on d hs (h ∷ more) =
    let rest = reports-on d (hs ++ h ∷ []) more in (
      _ ∷ rest.0,
      ap (seen d) (sym (append_assoc hs (h ∷ []) more))
          ∙ (rest.1 ∙ (ap (λ ss. ss ++ rest.0) (seen-more d hs h) ∙ append_assoc (seen d hs) (_ ∷ []) rest.0)),
    )

module _ (grow : ArrivalsGrow) (d : List FrameType) (longest origin : ℕ) where
  -- at one arrival more
  abbrev pub shown-at : List Arrival → Arrival → List SeenReport
  shown-at xs x = (reports-on d (arrived origin longest xs) (decides origin longest xs x)).0

  pub shown-more : (xs : List Arrival) (x : Arrival) → seen d (arrived origin longest (xs ++ x ∷ []))
      ≡ seen d (arrived origin longest xs) ++ shown-at xs x
  shown-more xs x = ap (seen d) (grow origin longest xs x)
      ∙ (reports-on d (arrived origin longest xs) (decides origin longest xs x)).1

module _ {C : Type 0} (view : CheckView C) where
  -- the origin and the bits of both lines
  pub numbered-arrivals : (a : ClockAnalyser C) (xs : List Arrival) → IsAfterArrivals view a.analyser xs →
      bits_taken a.analyser ≡ a.analyser.first.origin + length xs
  numbered-arrivals a xs after = omega (
    arith,
    after.first.has_taken.place,
    after.second.has_taken.place,
    after.origin,
    own-count xs,
  )

  -- behind the rule of rest
  pub told-behind : (a c : ClockAnalyser C) (xs : List Arrival) (told : List SeenReport → Type 0) →
      AdvancesWatchShown (two_clocks view) a.analyser xs c.analyser told
      → AdvancesWatchShown (clocks_behind view) a xs c told
  told-behind a c xs told all = record {
    seen = all.seen;
    sees = record {
      is_after = all.sees.is_after;
      seen = all.sees.seen;
      dictionary = all.sees.dictionary;
      depth = all.sees.depth;
      origin = all.sees.origin;
      place = all.sees.place;
    };
    few = all.few;
    told = all.told;
  }

  -- the rule of rest changes nothing of what was followed
  pub watched-behind : {start now : Option (List ℕ)} {w v : CaptureRun (ClockAnalyser C)} {xs : List Arrival} →
      v.analyser.analyser ≡ w.analyser.analyser → v.reporter ≡ w.reporter →
      WatchAfter (arrivals_kind view) start now w xs → WatchAfter (arrivals_kind view) start now v xs
  watched-behind analyser reporter followed =
      rw (analyser, reporter)
      (record { is_after = followed.is_after; counts = followed.counts; page = followed.page })

  -- symbols were taken, or not
  pub symbols-taken : (start now : Option (List ℕ)) (w : CaptureRun (ClockAnalyser C)) {b : List (Bool × Bool)}
      {ys : List Arrival} (r : Result (Unit {0}) ToolFault)
      → RestsAfter w.analyser.rest b ys → MatchResult r (λ _. WatchAfter (arrivals_kind view) start now w ys)
      (λ f. WatchStopsWith (arrivals_kind view) start now w ys f)
      → MatchResult r (λ _. FeedAfter (arrivals_kind view) start now w b)
      (λ f. FeedStopsWith (arrivals_kind view) start now w b f)
  symbols-taken start now w (Ok u) stands taken =
      record {
        rule = stands.after;
        bits = subst (WatchAfter (arrivals_kind view) start now w) (sym stands.rested) taken;
      }
  symbols-taken start now w (Err f) stands taken =
      subst (λ (zs : List Arrival). WatchStopsWith (arrivals_kind view) start now w zs f) (sym stands.rested) taken

-- ---- what the rule takes of them, and what it puts behind
module _ {C : Type 0} (view : CheckView C) (bits lines : List ℕ) (from end n : ℕ) (within : n ≤ end - from) where
  abbrev pub symbols : List (Bool × Bool)
  symbols = zip (bits_from bits from (end - from)) (bits_from lines from (end - from))

  abbrev pub taken : List (Bool × Bool)
  taken = zip (bits_from bits from n) (bits_from lines from n)

  -- what stopped among those taken, stops among all
  pub stops-among : KindLaws (arrivals_kind view) → (start now : Option (List ℕ)) (w : CaptureRun (ClockAnalyser C))
      (b : List (Bool × Bool)) (f : ToolFault) → FeedStopsWith (arrivals_kind view) start now w (b ++ taken) f →
      FeedStopsWith (arrivals_kind view) start now w (b ++ symbols) f
  stops-among law start now w b f stopped =
      let more = zip (bits_from bits (from + n) (end - from - n)) (bits_from lines (from + n) (end - from - n)) in
      let count : end - from ≡ n + (end - from - n) = omega (arith, within) in
      let all : (b ++ taken) ++ more ≡ b ++ symbols =
      append_assoc b taken more
      ∙ ap (λ (xs : List (Bool × Bool)). b ++ xs)
      (sym (symbols-more bits lines from n (end - from - n))
      ∙ ap (λ (k : ℕ). zip (bits_from bits from k) (bits_from lines from k)) (sym count)) in
      subst (λ (xs : List (Bool × Bool)). FeedStopsWith (arrivals_kind view) start now w xs f) all
      (feed-halts-more (arrivals_kind view) law start now w (b ++ taken) more f stopped)
