-- Two lines that are decoded one after the other, up to the same place.
use Rattle.std.proofs.Common.{◌≡◌, ℕ, ◌+◌, ◌-◌, ◌^◌, ◌<◌, ◌≤◌, Bool, false, List, [], ◌∷◌, ◌++◌, length, take, map, zip}
use Rattle.std.proofs.Common.{Option, Some, refl, sym, ap, ◌∙◌, subst, append_assoc, arith, length-append, get_or}
use Rattle.std.specs.List.{sum_by, take-map}
use Rattle.std.specs.Option.{option_to_list}
use Rattle.std.proofs.lemmas.List.{length-map, take_more, take_all}
use Rattle.bus_bits.specs.Bits.{bits_from}
use Rattle.bus_bits.proofs.BitLemmas.{bits-more, length-from}
use Rattle.bus_bits.proofs.ListLemmas.{zip-append}
use Rattle.bus_fcs.specs.Check.{CheckView}
use Rattle.bus_line.specs.Due.{placed}
use Rattle.bus_line.specs.Laws.{OneMore, ReportsGrow, DueStays, FramesStored, StoredPaid, AssembledWithin}
use Rattle.bus_line.specs.Ledger.{octet_count}
use Rattle.bus_dictionary.specs.Dictionary.{longest_of}
use Rattle.bus_line.specs.LineReport.{LineReport, line_report, firsts, seconds, merged}
use Rattle.bus_pairing.specs.Seen.{SeenReport, seen}
use Rattle.bus_pairing.specs.Ledger.{copied_of}
use Rattle.bus_pairing.specs.Conversation.{ConversationState, ConversationAfter}
use Rattle.bus_watch.specs.Decodes.{Decodes, DecodesMany, KeepsUp, line_reports_of}
use Rattle.bus_watch.specs.Pairs.{PairState, IsAfterPairs, AdvancesPairs, pair_reports, two_lines}
use Rattle.bus_watch.specs.Watch.{AdvancesWatchShown, Watch}
use Rattle.bus_watch.proofs.FedLemmas.{leads-more, leads-nil}
use Rattle.bus_watch.proofs.DecodesLemmas.{decodes-one}
use Rattle.bus_line.specs.declared.line.Line.TheVariants.{First, Second}
use Rattle.bus_watch.proofs.MergedLemmas.{firsts-append, length-firsts, length-seconds, merged-adds, merged-led}
use Rattle.bus_watch.proofs.MergedLemmas.{seconds-append}
use Rattle.bus_watch.proofs.AnalyserViewLemmas.{reports-octets, line-length}
use Rattle.bus_watch.proofs.PairLemmas.{copied-adds, few-option, firsts-zip, of_one-octets, seconds-zip}

-- the first line of two stands so
pub pairs-keep_up : {C : Type 0} (view : CheckView C) (a : PairState C) (ps : List (Bool × Bool)) →
    FramesStored → StoredPaid → AssembledWithin
    → IsAfterPairs view a ps → length ps ≤ 2 ^ 60 → KeepsUp view a.first a.conversation
pairs-keep_up view a ps frames paid within reached few =
    let o = a.first.origin in
    let longest = longest_of a.conversation.dictionary in
    let same : placed o longest (firsts ps) ≡ placed o a.first.longest (firsts ps) =
    ap (λ n. placed o n (firsts ps)) (sym reached.longest) in
    record {
      bits = firsts ps;
      after = reached.first;
      decoded = pair_reports a ps;
      keeps = reached.conversation;
      copied = omega (
        arith,
        merged-adds copied_of refl copied-adds o longest ps,
        reports-octets (Some First) (placed o longest (firsts ps)),
        ap (sum_by octet_count) same,
        of_one-octets frames paid within Second o longest (seconds ps),
        length-seconds ps,
        few,
      );
      count = omega (
        arith,
        merged-adds length refl length-append o longest ps,
        length-map (placed o longest (firsts ps)) (line_report (Some First)),
        length-map (placed o longest (seconds ps)) (line_report (Some Second)),
        ap length same,
        line-length o longest (seconds ps),
        length-seconds ps,
        few,
      );
    }

-- ---- the second line's last bit is the first at which it reports

module _ {C : Type 0} (view : CheckView C) (old new : PairState C) (j : ConversationState)
    (zs : List (Bool × Bool)) (xs ys : List Bool) (t : Option SeenReport) (told : List SeenReport → Type 0)
    (stays : DueStays) (more : OneMore) (grow : ReportsGrow) (some : 0 < length zs)
    (firsts_are : xs ≡ firsts zs) (seconds_are : ys ≡ seconds zs)
    (first : DecodesMany view (Some First) old.first old.conversation xs new.first j told)
    (second : Decodes view (Some Second) old.second j ys t new.second new.conversation) where
  abbrev all-but : List (Bool × Bool)
  all-but = take (length zs - 1) zs

  abbrev last-one : Bool × Bool
  last-one = get_or zs (length zs - 1) (false, false)

  whole : zs ≡ all-but ++ last-one ∷ []
  whole =
      let count : length zs - 1 + 1 ≡ length zs = omega (arith, some) in
      sym (ap (λ k. take k zs) count ∙ take_all (length zs) zs (omega arith))
      ∙ take_more zs (length zs - 1) (false, false) (omega (arith, some))

  second-front : take (length ys - 1) ys ≡ seconds all-but
  second-front = rw seconds_are (ap (λ k. take (k - 1) (seconds zs)) (length-seconds zs)
      ∙ take-map (λ (p : Bool × Bool). p.1) (length zs - 1) zs)

  abbrev longest : ℕ
  longest = longest_of old.conversation.dictionary

  abbrev first-lines : List LineReport
  first-lines = map (line_report (Some First)) first.reports

  lines-more : (ps : List (Bool × Bool)) → IsAfterPairs view old ps →
      pair_reports old (ps ++ zs) ≡ (pair_reports old ps ++ first-lines) ++ line_reports_of (Some Second) second.report
  lines-more ps reached =
      let o = old.first.origin in
      let quiet : placed o longest (seconds ps ++ seconds all-but) ≡ placed o longest (seconds ps) =
      rw (← second-front, ← reached.longest_second, ← reached.origin)
      (second.advances.before (seconds ps) reached.second) in
      let first_adds : placed o longest (firsts ps ++ firsts (all-but ++ last-one ∷ []))
      ≡ placed o longest (firsts ps) ++ first.reports =
      rw (← whole, ← firsts_are, ← reached.longest) (first.grows (firsts ps) reached.first) in
      let second_adds : placed o longest (seconds ps ++ seconds (all-but ++ last-one ∷ []))
      ≡ placed o longest (seconds ps) ++ option_to_list second.report =
      rw (← whole, ← seconds_are, ← reached.longest_second, ← reached.origin)
      (second.advances.decides.says (seconds ps) reached.second) in
      ap (λ (qs : List (Bool × Bool)). pair_reports old (ps ++ qs)) whole
      ∙ (merged-led stays more grow o longest ps all-but last-one first.reports second.report first_adds quiet
      second_adds
      ∙ sym (append_assoc (pair_reports old ps) first-lines (line_reports_of (Some Second) second.report)))

  pub sees-scanned : AdvancesPairs view old zs (first.seen_now ++ option_to_list t) new
  sees-scanned =
      let d = second.dictionary ∙ first.dictionary in
      let second_led = second.advances.decides.leads in
      let same : (ps : List (Bool × Bool)) → pair_reports new ps ≡ pair_reports old ps = λ ps.
      ap (λ o. merged o (longest_of new.conversation.dictionary) ps) first.led.origin
      ∙ ap (λ es. merged old.first.origin (longest_of es) ps) d in
      record {
        is_after = λ ps reached. record {
          first = rw (firsts-append ps zs, ← firsts_are) (first.led.after (firsts ps) reached.first);
          second = rw (seconds-append ps zs, ← seconds_are) (second_led.after (seconds ps) reached.second);
          origin = second_led.origin ∙ reached.origin ∙ sym first.led.origin;
          longest = first.led.longest ∙ reached.longest ∙ ap longest_of (sym d);
          longest_second = second_led.longest ∙ reached.longest_second ∙ ap longest_of (sym d);
          conversation = subst (ConversationAfter new.conversation) (sym (same (ps ++ zs) ∙ lines-more ps reached))
              (second.keeps (pair_reports old ps ++ first-lines) (first.keeps
              (pair_reports old ps) reached.conversation));
        };
        seen = λ ps reached.
            let e = old.conversation.dictionary in
            let half : List LineReport = pair_reports old ps ++ first-lines in
            let last : seen e (half ++ line_reports_of (Some Second) second.report) ≡ seen e half ++ option_to_list t =
            subst (λ es. seen es (half ++ line_reports_of (Some Second) second.report) ≡ seen es half ++ option_to_list
            t)
            first.dictionary (second.seen half (first.keeps (pair_reports old ps) reached.conversation)) in
            ap (seen e) (lines-more ps reached) ∙ (last
            ∙ (ap (λ ss. ss ++ option_to_list t) (first.seen (pair_reports old ps) reached.conversation)
            ∙ append_assoc (seen e (pair_reports old ps)) first.seen_now (option_to_list t)));
        dictionary = d;
        depth = second.depth ∙ first.depth;
        origin = first.led.origin;
        place = omega (arith, first.led.place, ap length firsts_are, length-firsts zs);
      }

-- one bit on either line
pub sees-pair : {C : Type 0} (view : CheckView C) (x y : Bool) (old new : PairState C) (j : ConversationState)
    (s t : Option SeenReport) → DueStays → OneMore → ReportsGrow
    → Decodes view (Some First) old.first old.conversation (x ∷ []) s new.first j
    → Decodes view (Some Second) old.second j (y ∷ []) t new.second new.conversation
    → AdvancesPairs view old ((x, y) ∷ []) (option_to_list s ++ option_to_list t) new
sees-pair view x y old new j s t stays more grow first second =
    sees-scanned view old new j ((x, y) ∷ []) (x ∷ []) (y ∷ []) t (λ _. Unit {0})
    stays more grow (omega arith) refl refl
    (decodes-one view (Some First) old.first new.first old.conversation j (x ∷ []) s (omega arith) first) second

-- ---- pairs of octets' bits

pub firsts-from : (os ys : List ℕ) (i n : ℕ) → firsts (zip (bits_from os i n) (bits_from ys i n)) ≡ bits_from os i n
firsts-from os ys i n = firsts-zip (bits_from os i n) (bits_from ys i n) (length-from os i n ∙ sym (length-from ys i n))

pub seconds-from : (os ys : List ℕ) (i n : ℕ) → seconds (zip (bits_from os i n) (bits_from ys i n)) ≡ bits_from ys i n
seconds-from os ys i n = seconds-zip (bits_from os i n) (bits_from ys i n)
    (length-from os i n ∙ sym (length-from ys i n))

pub length-zipped : (os ys : List ℕ) (i n : ℕ) → length (zip (bits_from os i n) (bits_from ys i n)) ≡ n
length-zipped os ys i n = sym (length-firsts (zip (bits_from os i n) (bits_from ys i n)))
    ∙ (ap length (firsts-from os ys i n) ∙ length-from os i n)

-- the second line takes bits of which only the last may decide a report, and the first as many
pub leads-scanned : {C : Type 0} (view : CheckView C) (old new : PairState C) (j : ConversationState)
    (os ys : List ℕ) (i n : ℕ) (t : Option SeenReport) (told further : List SeenReport → Type 0)
    → DueStays → OneMore → ReportsGrow → 1 ≤ n
    → (first : DecodesMany view (Some First) old.first old.conversation (bits_from os i n) new.first j told)
    → Decodes view (Some Second) old.second j (bits_from ys i n) t new.second new.conversation
    → further (first.seen_now ++ option_to_list t)
    → AdvancesWatchShown (two_lines view) old (zip (bits_from os i n) (bits_from ys i n)) new further
leads-scanned view old new j os ys i n t told further stays more grow some first second all_told = record {
  seen = first.seen_now ++ option_to_list t;
  sees = sees-scanned view old new j (zip (bits_from os i n) (bits_from ys i n)) (bits_from os i n)
      (bits_from ys i n) t told stays more grow (omega (arith, length-zipped os ys i n, some))
      (sym (firsts-from os ys i n)) (sym (seconds-from os ys i n)) first second;
  few = omega (
    arith,
    length-append first.seen_now (option_to_list t),
    few-option t,
    first.few,
    length-from os i n,
    length-zipped os ys i n,
    some,
  );
  told = all_told;
}

-- the pairs so far, and those after them
pub zip-met : (os ys : List ℕ) (i n : ℕ) → zip (bits_from os 0 (i + n)) (bits_from ys 0 (i + n))
    ≡ zip (bits_from os 0 i) (bits_from ys 0 i) ++ zip (bits_from os i n) (bits_from ys i n)
zip-met os ys i n =
    ap (λ b. zip b (bits_from ys 0 (i + n))) (met os)
    ∙ (ap (zip (bits_from os 0 i ++ bits_from os i n)) (met ys)
    ∙ zip-append (bits_from os 0 i) (bits_from ys 0 i) (bits_from os i n) (bits_from ys i n)
    (length-from os 0 i ∙ sym (length-from ys 0 i)))
  where
    met : (ws : List ℕ) → bits_from ws 0 (i + n) ≡ bits_from ws 0 i ++ bits_from ws i n
    met ws = let here : 0 + i ≡ i = omega arith in bits-more ws 0 i n
        ∙ ap (λ (k : ℕ). bits_from ws 0 i ++ bits_from ws k n) here

-- more pairs
pub leads-further : {A X : Type 0} (w : Watch A X) (a b c : A) (xs ys : List X)
    (told last further : List SeenReport → Type 0)
    → AdvancesWatchShown w a xs b told → AdvancesWatchShown w b ys c last →
    ((ss ts : List SeenReport) → told ss → last ts → further (ss ++ ts)) → AdvancesWatchShown w a (xs ++ ys) c further
leads-further w a b c xs ys told last further first next both = record {
  seen = first.seen ++ next.seen;
  sees = leads-more first.sees next.sees;
  few = omega (arith, length-append first.seen next.seen, length-append xs ys, first.few, next.few);
  told = both first.seen next.seen first.told next.told;
}

-- no pair is taken
pub leads-nowhere : {C : Type 0} (view : CheckView C) (a : PairState C) (os ys : List ℕ)
    (told : List SeenReport → Type 0) → told []
    → AdvancesWatchShown (two_lines view) a (zip (bits_from os 0 0) (bits_from ys 0 0)) a told
unfolding bits_from
leads-nowhere view a os ys told nothing_told =
    record { seen = []; sees = leads-nil (two_lines view) a; few = omega arith; told = nothing_told }
