-- Bits of a line one after another, and all that is seen at them.
use Rattle.std.proofs.Common.{◌≡◌, ℕ, ◌+◌, ◌-◌, ◌^◌, ◌<◌, ◌≤◌, Bool, List, [], ◌++◌, length, map, Option, None, refl}
use Rattle.std.proofs.Common.{sym, ap, ◌∙◌, subst, append-nil, append_assoc, arith, length-append}
use Rattle.std.specs.List.{sum_by}
use Rattle.std.specs.Option.{option_to_list}
use Rattle.std.proofs.lemmas.List.{map-append, length-map}
use Rattle.std.proofs.lemmas.List.Sums.{sum_by-append}
use Rattle.bus_bits.specs.Bits.{bits_from}
use Rattle.bus_bits.proofs.BitLemmas.{bits-more}
use Rattle.bus_fcs.specs.Check.{CheckView}
use Rattle.bus_line.specs.Due.{reports, placed}
use Rattle.bus_line.specs.Laws.{FramesStored, StoredPaid, AssembledWithin}
use Rattle.bus_line.specs.Ledger.{octet_count}
use Rattle.bus_line.specs.LineState.{LineState}
use Rattle.bus_line.specs.After.{After}
use Rattle.bus_dictionary.specs.Dictionary.{longest_of}
use Rattle.bus_line.specs.LineReport.{LineReport, line_report, of_line}
use Rattle.bus_pairing.specs.Seen.{SeenReport, seen}
use Rattle.bus_pairing.specs.Conversation.{ConversationState, ConversationAfter, HasRoom}
use Rattle.bus_watch.specs.Decodes.{Decodes, DecodesMany, KeepsUp, line_reports_of}
use Rattle.bus_watch.specs.After.{AnalyserState, IsAfter, AdvancesAnalyser, line_reports, one_line}
use Rattle.bus_watch.specs.Watch.{AdvancesWatchShown}
use Rattle.bus_line.specs.declared.line.Line.{Line}
use Rattle.bus_watch.proofs.AnalyserViewLemmas.{reports-octets, line-length, octets-moved, room-of}
use Rattle.bus_watch.proofs.PairLemmas.{copied-adds, few-option}

-- ---- bits one after the other

pub bits-none : (os : List ℕ) (i : ℕ) → bits_from os i (i - i) ≡ []
unfolding bits_from
bits-none os i = let none : i - i ≡ 0 = omega arith in ap (bits_from os i) none

pub bits-met : (os : List ℕ) (from i n : ℕ) → from ≤ i →
    bits_from os from (i + n - from) ≡ bits_from os from (i - from) ++ bits_from os i n
bits-met os from i n before =
    let all : i + n - from ≡ (i - from) + n = omega (arith, before) in
    let here : from + (i - from) ≡ i = omega (arith, before) in
    ap (bits_from os from) all
    ∙ (bits-more os from (i - from) n ∙ ap (λ (k : ℕ). bits_from os from (i - from) ++ bits_from os k n) here)

-- ---- many reports of one line

module _ {C : Type 0} (view : CheckView C) (on : Option Line) where
  pub decodes-nothing : (d : LineState C) (j : ConversationState) (told : List SeenReport → Type 0) → told [] →
      DecodesMany view on d j [] d j told
  decodes-nothing d j told nothing_told = record {
    reports = [];
    seen_now = [];
    led = record {
      after = λ b reached. subst (After view d) (sym (append-nil b)) reached;
      longest = refl;
      origin = refl;
      place = omega arith;
    };
    grows = λ b _. ap (placed d.origin d.longest) (append-nil b) ∙ sym (append-nil (placed d.origin d.longest b));
    keeps = λ hs kept. subst (ConversationAfter j) (sym (append-nil hs)) kept;
    seen = λ hs _. ap (seen j.dictionary) (append-nil hs) ∙ sym (append-nil (seen j.dictionary hs));
    dictionary = refl;
    depth = refl;
    few = omega arith;
    told = nothing_told;
  }

  -- one report at most
  abbrev pub decodes-one : (d e : LineState C) (j k : ConversationState) (xs : List Bool) (s : Option SeenReport) →
      0 < length xs → Decodes view on d j xs s e k → DecodesMany view on d j xs e k (λ _. Unit {0})
  decodes-one d e j k xs s some reports = record {
    reports = option_to_list reports.report;
    seen_now = option_to_list s;
    led = reports.advances.decides.leads;
    grows = reports.advances.decides.says;
    keeps = reports.keeps;
    seen = reports.seen;
    dictionary = reports.dictionary;
    depth = reports.depth;
    few = omega (arith, some, few-option s);
    told = tt;
  }

  pub decodes-more : (a b c : LineState C) (i j k : ConversationState) (xs ys : List Bool) (s : Option SeenReport)
      (told further : List SeenReport → Type 0)
      → 1 ≤ length ys → (first : DecodesMany view on a i xs b j told) → Decodes view on b j ys s c k →
      further (first.seen_now ++ option_to_list s)
      → DecodesMany view on a i (xs ++ ys) c k further
  decodes-more a b c i j k xs ys s told further some first next all_told =
      let rs = option_to_list next.report in
      let led = next.advances.decides.leads in
      let whole : (hs : List LineReport) → hs ++ map (line_report on) (first.reports ++ rs)
      ≡ (hs ++ map (line_report on) first.reports) ++ line_reports_of on next.report = λ hs.
      ap (λ more. hs ++ more) (map-append (line_report on) first.reports rs)
      ∙ sym (append_assoc hs (map (line_report on) first.reports) (line_reports_of on next.report)) in
      record {
        reports = first.reports ++ rs;
        seen_now = first.seen_now ++ option_to_list s;
        led = record {
          after = λ bs reached. subst (After view c) (append_assoc bs xs ys)
              (led.after (bs ++ xs) (first.led.after bs reached));
          longest = led.longest ∙ first.led.longest;
          origin = led.origin ∙ first.led.origin;
          place = omega (arith, first.led.place, led.place, length-append xs ys);
        };
        grows = λ bs reached.
            let last : placed a.origin a.longest ((bs ++ xs) ++ ys) ≡ placed a.origin a.longest (bs ++ xs) ++ rs =
            rw (← first.led.origin, ← first.led.longest)
            (next.advances.decides.says (bs ++ xs) (first.led.after bs reached)) in
            ap (placed a.origin a.longest) (sym (append_assoc bs xs ys))
            ∙ (last ∙ (ap (λ more. more ++ rs) (first.grows bs reached)
            ∙ append_assoc (placed a.origin a.longest bs) first.reports rs));
        keeps = λ hs kept. subst (ConversationAfter k) (sym (whole hs))
            (next.keeps (hs ++ map (line_report on) first.reports) (first.keeps hs kept));
        seen = λ hs kept.
            let last : seen i.dictionary ((hs ++ map (line_report on) first.reports) ++ line_reports_of on next.report)
            ≡ seen i.dictionary (hs ++ map (line_report on) first.reports) ++ option_to_list s =
            rw (← first.dictionary) (next.seen (hs ++ map (line_report on) first.reports) (first.keeps hs kept)) in
            ap (seen i.dictionary) (whole hs)
            ∙ (last ∙ (ap (λ ss. ss ++ option_to_list s) (first.seen hs kept)
            ∙ append_assoc (seen i.dictionary hs) first.seen_now (option_to_list s)));
        dictionary = next.dictionary ∙ first.dictionary;
        depth = next.depth ∙ first.depth;
        few = omega (
          arith,
          first.few,
          some,
          length-append xs ys,
          length-append first.seen_now (option_to_list s),
          few-option s,
        );
        told = all_told;
      }

  -- a report more, and the conversation is as far as the line still
  pub keeps_up-more : (d e : LineState C) (j k : ConversationState) (xs : List Bool) (s : Option SeenReport) →
      KeepsUp view d j → Decodes view on d j xs s e k → KeepsUp view e k
  keeps_up-more d e j k xs s keeps_up reports =
      let rs = option_to_list reports.report in
      let led = reports.advances.decides.leads in
      let grown : placed e.origin e.longest (keeps_up.bits ++ xs) ≡ placed d.origin d.longest keeps_up.bits ++ rs =
      ap (λ o. placed o e.longest (keeps_up.bits ++ xs)) led.origin
      ∙ (ap (λ n. placed d.origin n (keeps_up.bits ++ xs)) led.longest
      ∙ reports.advances.decides.says keeps_up.bits keeps_up.after) in
      record {
        bits = keeps_up.bits ++ xs;
        after = led.after keeps_up.bits keeps_up.after;
        decoded = keeps_up.decoded ++ line_reports_of on reports.report;
        keeps = reports.keeps keeps_up.decoded keeps_up.keeps;
        copied = omega (
          arith,
          keeps_up.copied,
          copied-adds keeps_up.decoded (line_reports_of on reports.report),
          reports-octets on rs,
          ap (sum_by octet_count) grown,
          sum_by-append octet_count (placed d.origin d.longest keeps_up.bits) rs,
        );
        count = omega (
          arith,
          keeps_up.count,
          length-append keeps_up.decoded (line_reports_of on reports.report),
          length-map rs (line_report on),
          ap length grown,
          length-append (placed d.origin d.longest keeps_up.bits) rs,
        );
      }

-- all counters have room then
pub keeps_up-room : {C : Type 0} (view : CheckView C) (d : LineState C) (j : ConversationState) →
    FramesStored → StoredPaid → AssembledWithin
    → KeepsUp view d j → d.place ≤ 2 ^ 60 → HasRoom j
keeps_up-room view d j frames paid within keeps_up place =
    let few : length keeps_up.bits ≤ 2 ^ 60 = omega (arith, keeps_up.after.has_taken.place, place) in
    room-of j keeps_up.decoded keeps_up.keeps
    (omega (
      arith,
      keeps_up.copied,
      octets-moved d.origin (reports d.longest keeps_up.bits),
      frames d.longest keeps_up.bits,
      paid d.longest keeps_up.bits,
      within keeps_up.bits,
      few,
    ))
    (omega (arith, keeps_up.count, line-length d.origin d.longest keeps_up.bits, few))

-- ---- an analyser of one line

-- bits that came lead it on
pub leads-decoded : {C : Type 0} (view : CheckView C) (old new : AnalyserState C) (bits : List Bool)
    (told : List SeenReport → Type 0)
    → DecodesMany view None old.decoder old.conversation bits new.decoder new.conversation told
    → AdvancesWatchShown (one_line view) old bits new told
leads-decoded view old new bits told decoded =
    let led = decoded.led in
    let same : (bs : List Bool) → line_reports new bs ≡ line_reports old bs = λ bs.
    ap (λ o. of_line (placed o (longest_of new.conversation.dictionary) bs)) led.origin
    ∙ ap (λ d. of_line (placed old.decoder.origin (longest_of d) bs)) decoded.dictionary in
    let grown : (b : List Bool) → IsAfter view old b →
    line_reports old (b ++ bits) ≡ line_reports old b ++ map (line_report None) decoded.reports = λ b reached.
    let before = placed old.decoder.origin (longest_of old.conversation.dictionary) b in
    let more : placed old.decoder.origin (longest_of old.conversation.dictionary) (b ++ bits) ≡ before
    ++ decoded.reports =
    rw (← reached.longest) (decoded.grows b reached.decoder) in
    ap of_line more ∙ map-append (line_report None) before decoded.reports in
    record {
      seen = decoded.seen_now;
      sees = record {
        is_after = λ b reached. record {
          decoder = led.after b reached.decoder;
          longest = led.longest ∙ reached.longest ∙ ap longest_of (sym decoded.dictionary);
          conversation = rw (same (b ++ bits), grown b reached) (decoded.keeps
              (line_reports old b) reached.conversation);
        };
        seen = λ b reached.
            ap (seen old.conversation.dictionary) (grown b reached)
            ∙ decoded.seen (line_reports old b) reached.conversation;
        dictionary = decoded.dictionary;
        depth = decoded.depth;
        origin = led.origin;
        place = led.place;
      };
      few = omega (arith, decoded.few);
      told = decoded.told;
    }

pub sees-decoded : {C : Type 0} (view : CheckView C) (old new : AnalyserState C) (bits : List Bool)
    (told : Option SeenReport) → 0 < length bits
    → Decodes view None old.decoder old.conversation bits told new.decoder new.conversation →
    AdvancesAnalyser view old bits (option_to_list told) new
unfolding leads-decoded
sees-decoded view old new bits told some reports =
    (leads-decoded view old new bits _ (decodes-one view None _ _ _ _ bits told some reports)).sees

-- what is reported on its line is as far as that
pub line-keeps_up : {C : Type 0} (view : CheckView C) (a : AnalyserState C) (b : List Bool) →
    IsAfter view a b → KeepsUp view a.decoder a.conversation
line-keeps_up view a b reached =
    let rs = placed a.decoder.origin (longest_of a.conversation.dictionary) b in
    let same : rs ≡ placed a.decoder.origin a.decoder.longest b =
    ap (λ n. placed a.decoder.origin n b) (sym reached.longest) in
    record {
      bits = b;
      after = reached.decoder;
      decoded = line_reports a b;
      keeps = reached.conversation;
      copied = omega (arith, reports-octets None rs, ap (sum_by octet_count) same);
      count = omega (arith, length-map rs (line_report None), ap length same);
    }
