-- Arrivals of which at most the last decides a report of the second line.
use Rattle.std.proofs.Common.{◌≡◌, ℕ, ◌+◌, ◌-◌, ◌%◌, ◌<◌, ◌≤◌, ◌^◌, Bool, List, [], ◌∷◌, ◌++◌, length, map}
use Rattle.std.proofs.Common.{Option, Some, refl, sym, ap, ◌∙◌, subst, arith, append-nil, append_assoc, take}
use Rattle.std.proofs.Common.{length-append, ◌⊎◌}
use Rattle.std.specs.Option.{option_map, option_to_list}
use Rattle.std.proofs.Math.Seq.{take-append_seam}
use Rattle.bus_fcs.specs.Check.{CheckView}
use Rattle.bus_line.specs.Due.{reports, placed}
use Rattle.bus_line.specs.Ledger.{octet_count}
use Rattle.bus_line.specs.Laws.{OneMore, ReportsAre, ReportsGrow, DueWithin, DueIsIt, FramesStored, StoredPaid}
use Rattle.bus_line.specs.Laws.{AssembledWithin}
use Rattle.bus_line.specs.Shown.{reported}
use Rattle.bus_line.specs.declared.event.EventKind.TheVariants as event
use Rattle.bus_line.specs.LineState.{LineState}
use Rattle.bus_line.specs.declared.event.Event.{Event}
use Rattle.bus_dictionary.specs.Dictionary.{longest_of}
use Rattle.bus_line.specs.LineReport.{LineReport, line_report}
use Rattle.bus_pairing.specs.Seen.{SeenReport, seen}
use Rattle.bus_pairing.specs.Conversation.{ConversationState, ConversationAfter}
use Rattle.bus_line.specs.declared.line.Line.TheVariants.{First, Second}
use Rattle.bus_watch.specs.Decodes.{DecodesMany, KeepsUp, line_reports_of}
use Rattle.bus_watch.specs.Watch.{AdvancesWatchShown}
use Rattle.bus_watch.proofs.AnalyserViewLemmas.{whole}
use Rattle.bus_watch.proofs.PairLemmas.{few-option}
use Rattle.bus_tap.specs.Arrival.{Arrival, own, arrived, decides}
use Rattle.bus_tap.proofs.ArrivalLemmas.{own-append, before-append}
use Rattle.bus_tap.specs.declared.places.BitPlaces.{BitPlaces}
use Rattle.bus_tap.specs.Places.{KeepsPlaces, AreLocated}
use Rattle.bus_clocks.specs.Clocks.{ClockState, IsAfterArrivals, AdvancesArrivals, arrival_reports, two_clocks}
use Rattle.bus_clocks.specs.Internal.Pushes.{AdvancesConversationBy}
use Rattle.bus_tap.specs.Laws.{ArrivalsGrow}
use Rattle.bus_clocks.specs.Laws.{LinesApart}
use Rattle.bus_tap.proofs.LocatedLemmas.{decides-located}
use Rattle.bus_tap.proofs.PlacesLemmas.{begun-within}
use Rattle.bus_clocks.proofs.RoomLemmas.{arrived-few, own-count}
use Rattle.bus_clocks.proofs.SumLemmas.{sum-arrived}
use Rattle.bus_clocks.proofs.ScannedLemmas.{Scanned, all-parted, firsts-same, scanned-kept, scanned-last}
use Rattle.bus_clocks.proofs.ScannedLemmas.{seconds-count, seconds-end}
use Rattle.bus_clocks.proofs.SilentLemmas.{arrived-alone}

-- ---- the conversation

-- the first line is as far as the conversation
pub arrivals-keep_up : {C : Type 0} (view : CheckView C) (a : ClockState C) (xs : List Arrival) → OneMore →
    ArrivalsGrow → FramesStored → StoredPaid → AssembledWithin → IsAfterArrivals view a xs →
    a.first.place + a.second.place ≤ 2 ^ 60 → KeepsUp view a.first a.conversation
arrivals-keep_up view a xs more grow frames paid within reached room =
    let o = a.first.origin in
    let longest = longest_of a.conversation.dictionary in
    record {
      bits = own First xs;
      after = reached.first;
      decoded = arrival_reports a xs;
      keeps = reached.conversation;
      copied = omega (
        arith,
        sum-arrived octet_count (λ kind i j k l. refl) more grow o longest xs,
        frames longest (own First xs),
        paid longest (own First xs),
        within (own First xs),
        frames longest (own Second xs),
        paid longest (own Second xs),
        within (own Second xs),
        reached.first.has_taken.place,
        reached.second.has_taken.place,
        room,
      );
      count = omega (
        arith,
        arrived-few grow o longest xs,
        own-count xs,
        reached.first.has_taken.place,
        reached.second.has_taken.place,
        room,
      );
    }

-- these lead on: of either line its own bits, and then what the last of them decides on the second line
module _ {C : Type 0} (view : CheckView C) (old new : ClockState C) (j : ConversationState) (zs : List Arrival)
    (e l : Option Event) (t : Option SeenReport) (told : List SeenReport → Type 0) (grow : ArrivalsGrow)
    (apart : LinesApart) (grows : ReportsGrow) (are : ReportsAre) (within : DueWithin) (it : DueIsIt)
    (bound : old.first.place + length (own First zs) ≤ 2 ^ 60) (s : Scanned view old zs e new.second new.places)
    (first : DecodesMany view (Some First) old.first old.conversation (own First zs) new.first j told)
    (located : AreLocated new.places e l)
    (enters : AdvancesConversationBy j (line_reports_of (Some Second) (option_map (reported new.second.octets) l)) t
    new.conversation) where
  abbrev longest : ℕ
  longest = longest_of old.conversation.dictionary

  abbrev first-lines : List LineReport
  first-lines = map (line_report (Some First)) first.reports

  abbrev decided : List LineReport
  decided = line_reports_of (Some Second) (option_map (reported new.second.octets) l)

  abbrev front : List Arrival
  front = s.ends.front

  front-fits : (xs : List Arrival) → IsAfterArrivals view old xs →
      old.first.origin + length (own First (xs ++ front)) ≤ 2 ^ 60
  front-fits xs reached = omega (
    arith,
    bound,
    reached.first.has_taken.place,
    ap length (own-append First xs front),
    length-append (own First xs) (own First front),
    ap length (firsts-same it s xs reached),
  )

  lines-more : (xs : List Arrival) → IsAfterArrivals view old xs →
      arrival_reports old (xs ++ zs) ≡ (arrival_reports old xs ++ first-lines) ++ decided
  lines-more xs reached =
      let o = old.first.origin in
      let first_adds : placed o longest (own First xs ++ own First front) ≡ placed o longest (own First xs)
      ++ first.reports =
      rw (← firsts-same it s xs reached, ← reached.longest) (first.grows (own First xs) reached.first) in
      let most : List Bool = take (length (own Second zs) - 1) (own Second zs) in
      let all_but : most ≡ own Second front =
      (let count : length (own Second zs) - 1 ≡ length (own Second front) =
      omega (arith, seconds-count it s xs reached) in
      ap (λ k. take k (own Second zs)) count
      ∙ (ap (take (length (own Second front))) (seconds-end it s xs reached)
      ∙ take-append_seam (own Second front) (s.ends.bit ∷ []))) in
      let quiet : placed 0 longest (own Second xs ++ own Second front) ≡ placed 0 longest (own Second xs) =
      subst (λ c. placed 0 longest (own Second xs ++ c) ≡ placed 0 longest (own Second xs)) all_but
      (subst (λ n. placed 0 n (own Second xs ++ most) ≡ placed 0 n (own Second xs)) reached.longest_second
      (subst (λ k. placed k old.second.longest (own Second xs ++ most) ≡ placed k old.second.longest (own Second xs))
      reached.origin (s.advances.before (own Second xs) reached.second))) in
      let alone = arrived-alone grow apart grows are within o longest xs front first.reports first_adds quiet in
      let last : decides o longest (xs ++ front) (Second, s.ends.bit) ≡ decided =
      ap (λ n. decides o n (xs ++ front) (Second, s.ends.bit)) (sym reached.longest_second)
      ∙ decides-located e l (front-fits xs reached) (scanned-last it s xs reached) located in
      ap (arrived o longest) (all-parted it s xs reached)
      ∙ (grow o longest (xs ++ front) (Second, s.ends.bit)
      ∙ (ap (λ hs. hs ++ decides o longest (xs ++ front) (Second, s.ends.bit)) alone
      ∙ ap (λ hs. (arrival_reports old xs ++ first-lines) ++ hs) last))

  pub sees-scanned : AdvancesArrivals view old zs (first.seen_now ++ option_to_list t) new
  sees-scanned =
      let d = enters.dictionary ∙ first.dictionary in
      let led = s.advances.decides.leads in
      let same : (xs : List Arrival) → arrival_reports new xs ≡ arrival_reports old xs = λ xs.
      ap (λ o. arrived o (longest_of new.conversation.dictionary) xs) first.led.origin
      ∙ ap (λ es. arrived old.first.origin (longest_of es) xs) d in
      record {
        is_after = λ xs reached. record {
          first = rw (own-append First xs zs) (first.led.after (own First xs) reached.first);
          second = rw (own-append Second xs zs) (led.after (own Second xs) reached.second);
          origin = led.origin ∙ reached.origin;
          longest = first.led.longest ∙ reached.longest ∙ ap longest_of (sym d);
          longest_second = led.longest ∙ reached.longest_second ∙ ap longest_of (sym d);
          places = rw (first.led.origin) (scanned-kept it s xs reached);
          conversation = subst (ConversationAfter new.conversation) (sym (same (xs ++ zs) ∙ lines-more xs reached))
              (enters.keeps (arrival_reports old xs ++ first-lines) (first.keeps
              (arrival_reports old xs) reached.conversation));
        };
        seen = λ xs reached.
            let es = old.conversation.dictionary in
            let half : List LineReport = arrival_reports old xs ++ first-lines in
            let last : seen es (half ++ decided) ≡ seen es half ++ option_to_list t =
            subst (λ ds. seen ds (half ++ decided) ≡ seen ds half ++ option_to_list t)
            first.dictionary (enters.seen half (first.keeps (arrival_reports old xs) reached.conversation)) in
            ap (seen es) (lines-more xs reached) ∙ (last
            ∙ (ap (λ ss. ss ++ option_to_list t) (first.seen (arrival_reports old xs) reached.conversation)
            ∙ append_assoc (seen es (arrival_reports old xs)) first.seen_now (option_to_list t)));
        dictionary = d;
        depth = enters.depth ∙ first.depth;
        origin = first.led.origin;
        place = omega (arith, first.led.place, led.place, own-count zs);
      }

  pub leads-scanned : (further : List SeenReport → Type 0) → further (first.seen_now ++ option_to_list t) →
      AdvancesWatchShown (two_clocks view) old zs new further
  leads-scanned further all_told = record {
    seen = first.seen_now ++ option_to_list t;
    sees = sees-scanned;
    few = omega (
      arith,
      length-append first.seen_now (option_to_list t),
      few-option t,
      first.few,
      own-count zs,
      ap length (ap (own Second) s.ends.whole ∙ own-append Second s.ends.front ((Second, s.ends.bit) ∷ [])),
      length-append (own Second s.ends.front) (s.ends.bit ∷ []),
    );
    told = all_told;
  }

-- ---- arrivals of the first line alone

pub leads-followed : {C : Type 0} (view : CheckView C) (old new : ClockState C) (zs : List Arrival)
    (told : List SeenReport → Type 0) → ArrivalsGrow → LinesApart → ReportsGrow → ReportsAre → DueWithin →
    own Second zs ≡ [] → 0 < length (own First zs)
    → (first : DecodesMany view (Some First) old.first old.conversation (own First zs) new.first new.conversation told)
    → new.second ≡ old.second
    → new.places ≡ record old.places { reached = old.first.place + length (own First zs) - 1 }
    → AdvancesWatchShown (two_clocks view) old zs new told
leads-followed {C = C} view old new zs told grow apart grows are within alone some first second places =
    let longest = longest_of old.conversation.dictionary in
    let o = old.first.origin in
    let first_lines = map (line_report (Some First)) first.reports in
    let stays : (xs : List Arrival) → own Second (xs ++ zs) ≡ own Second xs = λ xs.
    own-append Second xs zs ∙ (ap (λ c. own Second xs ++ c) alone ∙ append-nil (own Second xs)) in
    let same : (xs : List Arrival) → arrival_reports new xs ≡ arrival_reports old xs = λ xs.
    ap (λ k. arrived k (longest_of new.conversation.dictionary) xs) first.led.origin
    ∙ ap (λ es. arrived o (longest_of es) xs) first.dictionary in
    let lines_more : (xs : List Arrival) → IsAfterArrivals view old xs
    → arrival_reports old (xs ++ zs) ≡ arrival_reports old xs ++ first_lines = λ xs reached.
    arrived-alone grow apart grows are within o longest xs zs first.reports
    (rw (← reached.longest) (first.grows (own First xs) reached.first))
    (ap (λ c. placed 0 longest (own Second xs ++ c)) alone ∙ ap (placed 0 longest) (append-nil (own Second xs))) in
    record {
      seen = first.seen_now;
      sees = record {
        is_after = λ xs reached. record {
          first = rw (own-append First xs zs) (first.led.after (own First xs) reached.first);
          second = rw (second, stays xs) reached.second;
          origin = ap (λ (d : LineState C). d.origin) second ∙ reached.origin;
          longest = first.led.longest ∙ reached.longest ∙ ap longest_of (sym first.dictionary);
          longest_second = ap (λ (d : LineState C). d.longest) second ∙ reached.longest_second
              ∙ ap longest_of (sym first.dictionary);
          places = rw (first.led.origin, places)
              (places-followed o old.first.place old.places xs zs reached.places reached.first.has_taken.place
              (stays xs) some);
          conversation = subst (ConversationAfter new.conversation) (sym (same (xs ++ zs) ∙ lines_more xs reached))
              (first.keeps (arrival_reports old xs) reached.conversation);
        };
        seen = λ xs reached. ap (seen old.conversation.dictionary) (lines_more xs reached)
            ∙ first.seen (arrival_reports old xs) reached.conversation;
        dictionary = first.dictionary;
        depth = first.depth;
        origin = first.led.origin;
        place = omega (
          arith,
          first.led.place,
          ap (λ (d : LineState C). d.place) second,
          own-count zs,
          ap length alone,
        );
      };
      few = omega (arith, first.few, own-count zs, ap length alone);
      told = first.told;
    }
  where
    places-followed : (origin place : ℕ) (p : BitPlaces) (xs zs : List Arrival) → KeepsPlaces origin p xs →
        place ≡ origin + length (own First xs) → own Second (xs ++ zs) ≡ own Second xs → 0 < length (own First zs) →
        KeepsPlaces origin (record p { reached = place + length (own First zs) - 1 }) (xs ++ zs)
    places-followed origin place p xs zs kept at same some = record {
      reached = omega (
        arith,
        at,
        some,
        ap length (own-append First xs zs),
        length-append (own First xs) (own First zs),
      );
      recent = λ k inside near.
          kept.recent k (rw same at inside) (rw same at near)
          ∙ ap (λ n. Some (origin + (n - 1))) (sym (before-append k xs zs (rw same at inside)));
      opened = λ k is.
          let was = rw same at is in
          kept.opened k was
          ∙ ap (λ n. origin + (n - 1)) (sym (before-append k xs zs (begun-within (own Second xs) k was)));
    }
