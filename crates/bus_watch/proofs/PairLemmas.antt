-- Pairs of bits: what is due at their places, the room of the counters, and the steps of both lines.
use Rattle.std.proofs.Common.{◌≡◌, ℕ, zero, suc, ◌+◌, ◌*◌, ◌<◌, ◌≤◌, ◌^◌, ◌==◌, Bool, true, false, List, []}
use Rattle.std.proofs.Common.{◌∷◌, ◌++◌, length, map, filter, zip, Option, Some, None, refl, sym}
use Rattle.std.proofs.Common.{ap, ◌∙◌, subst, append-nil, append_assoc, arith, length-append}
use Rattle.std.specs.List.{flat_map, All}
use Rattle.std.specs.Option.{option_map, option_to_list}
use Rattle.std.proofs.lemmas.List.{map-append, length-map, append_cancel_left}
use Rattle.std.proofs.lemmas.List.Elements.{All-append, All-nil, All-cons, filter-append}
use Rattle.std.proofs.lemmas.List.Sums.{sum_by-append}
use Rattle.std.proofs.lemmas.Bool.{ne_eqb, eq-eqb}
use Rattle.std.proofs.lemmas.Grind.{flat_map-append}
use Rattle.bus_bits.specs.declared.spent.Spent.{Spent}
use Rattle.bus_fcs.specs.Check.{CheckView}
use Rattle.bus_line.specs.Report.{Report, due, moved}
use Rattle.bus_line.specs.Due.{reports, placed, places, due_at}
use Rattle.bus_line.specs.Laws.{DueStays, DueIsIt, FramesStored, StoredPaid, AssembledWithin}
use Rattle.bus_line.specs.Ledger.{octet_count, copied, stored, IsLedger as IsLineLedger}
use Rattle.bus_line.specs.LineState.{LineState}
use Rattle.bus_dictionary.specs.Entry.{FrameType}
use Rattle.bus_dictionary.specs.Dictionary.{longest_of}
use Rattle.bus_line.specs.LineReport.{LineReport, line_report, firsts, seconds, line_reports_at, merged}
use Rattle.bus_pairing.specs.Seen.{SeenReport, report_in, seen, all_seen_at}
use Rattle.bus_pairing.specs.Conversation.{ConversationState, HasRoom}
use Rattle.bus_watch.specs.Decodes.{Decodes, line_reports_of}
use Rattle.bus_pairing.specs.Ledger.{steps, handled, handled_of, copied_of, total, sum_of_steps, IsAnalyserLedger}
use Rattle.bus_pairing.specs.Ledger.{IsPairLedger}
use Rattle.bus_watch.specs.Pairs.{PairState, IsAfterPairs, pair_reports, seen_after_pairs}
use Rattle.bus_watch.specs.Laws.{PairsGrow, StepsWithinFour, StepsWithinThree}
use Rattle.bus_line.specs.declared.line.Line.{Line}
use Rattle.bus_line.specs.declared.line.Line.TheVariants.{First, Second}
use Rattle.bus_watch.proofs.MergedLemmas.{added, merged-more, merged-adds, of_one, length-firsts, length-seconds}
use Rattle.bus_watch.proofs.AnalyserViewLemmas.{room-of, reports-octets, reports-steps, octets-moved, steps-moved}
use Rattle.bus_watch.proofs.AnalyserViewLemmas.{line-length}
use Rattle.bus_pairing.proofs.LedgerLemmas.{cost-within}
use Rattle.bus_watch.proofs.LawsLemmas.{seen-reports, due-moved}
use Rattle.bus_pairing.proofs.SeenLemmas.{seen-more}

-- the bits of pairs that were made of two lists
pub firsts-zip : (b c : List Bool) → length b ≡ length c → firsts (zip b c) ≡ b
firsts-zip [] c same_length = refl
firsts-zip (x ∷ b) [] same_length = absurd (omega (arith, same_length))
firsts-zip (x ∷ b) (y ∷ c) same_length = ap (λ l. x ∷ l) (firsts-zip b c (omega (arith, same_length)))

pub seconds-zip : (b c : List Bool) → length b ≡ length c → seconds (zip b c) ≡ c
seconds-zip [] [] same_length = refl
seconds-zip [] (y ∷ c) same_length = absurd (omega (arith, same_length))
seconds-zip (x ∷ b) [] same_length = absurd (omega (arith, same_length))
seconds-zip (x ∷ b) (y ∷ c) same_length = ap (λ l. y ∷ l) (seconds-zip b c (omega (arith, same_length)))

-- the octets of a line
pub of_one-octets : FramesStored → StoredPaid → AssembledWithin → (on : Line) (origin longest : ℕ) (b : List Bool) →
    copied_of (of_one on origin longest b) ≤ length b
of_one-octets frames paid within on origin longest b =
    omega (
      arith,
      reports-octets (Some on) (placed origin longest b),
      octets-moved origin (reports longest b),
      frames longest b,
      paid longest b,
      within b,
    )

pub copied-adds : (xs ys : List LineReport) → copied_of (xs ++ ys) ≡ copied_of xs + copied_of ys
copied-adds xs ys = sum_by-append (λ (h : LineReport). octet_count h.report) xs ys

handled-adds : (xs ys : List LineReport) → handled_of (xs ++ ys) ≡ handled_of xs + handled_of ys
handled-adds xs ys = sum_by-append (λ (h : LineReport). steps h.report) xs ys

pub merged-length : (origin longest : ℕ) (ps : List (Bool × Bool)) →
    length (merged origin longest ps) ≤ length ps + length ps
merged-length origin longest ps =
    omega (
      arith,
      merged-adds length refl length-append origin longest ps,
      length-map (placed origin longest (firsts ps)) (line_report (Some First)),
      length-map (placed origin longest (seconds ps)) (line_report (Some Second)),
      line-length origin longest (firsts ps),
      line-length origin longest (seconds ps),
      length-firsts ps,
      length-seconds ps,
    )

-- all counters have room for a pair's first report
pub room-first : {C : Type 0} (view : CheckView C) (a : PairState C) (ps : List (Bool × Bool)) →
    FramesStored → StoredPaid → AssembledWithin
    → IsAfterPairs view a ps → length ps ≤ 2 ^ 60 → HasRoom a.conversation
room-first view a ps frames paid within reached few =
    let o = a.first.origin in
    let longest = longest_of a.conversation.dictionary in
    room-of a.conversation (pair_reports a ps) reached.conversation
    (omega (
      arith,
      merged-adds copied_of refl copied-adds o longest ps,
      of_one-octets frames paid within First o longest (firsts ps),
      of_one-octets frames paid within Second o longest (seconds ps),
      length-firsts ps,
      length-seconds ps,
      few,
    ))
    (omega (arith, merged-length o longest ps, few))

pub few-option : {X : Type 0} (o : Option X) → length (option_to_list o) ≤ 1
few-option None = omega arith
few-option (Some x) = omega arith

-- and then for its second
pub room-second : {C : Type 0} (view : CheckView C) (a : PairState C) (d : LineState C)
    (j : ConversationState) (bits : List Bool) (s : Option SeenReport) (ps : List (Bool × Bool)) → FramesStored →
    StoredPaid →
    AssembledWithin
    → Decodes view (Some First) a.first a.conversation bits s d j → IsAfterPairs view a ps →
    length ps + length bits ≤ 2 ^ 60 → HasRoom j
room-second view a d j bits s ps frames paid within first reached few =
    let o = a.first.origin in
    let longest = longest_of a.conversation.dictionary in
    let b = firsts ps in
    let new : List LineReport = line_reports_of (Some First) first.report in
    let adds : placed o longest (b ++ bits) ≡ placed o longest b ++ option_to_list first.report =
    rw (← reached.longest) (first.advances.decides.says b reached.first) in
    let grown : of_one First o longest (b ++ bits) ≡ of_one First o longest b ++ new =
    ap (map (line_report (Some First))) adds ∙ map-append (line_report (Some First)) (placed o longest b)
    (option_to_list first.report) in
    room-of j (pair_reports a ps ++ new) (first.keeps (pair_reports a ps) reached.conversation)
    (omega (
      arith,
      copied-adds (pair_reports a ps) new,
      merged-adds copied_of refl copied-adds o longest ps,
      ap copied_of grown,
      copied-adds (of_one First o longest b) new,
      of_one-octets frames paid within First o longest (b ++ bits),
      length-append b bits,
      of_one-octets frames paid within Second o longest (seconds ps),
      length-firsts ps,
      length-seconds ps,
      few,
    ))
    (omega (
      arith,
      length-append (pair_reports a ps) new,
      merged-length o longest ps,
      length-map (option_to_list first.report) (line_report (Some First)),
      few-option first.report,
      few,
    ))

-- what is due at a place
pub reports-due : DueIsIt → (on : Line) (origin longest : ℕ) (b : List Bool) (i : ℕ) →
    All (λ (h : LineReport). due h.report ≡ origin + i) (line_reports_at on origin longest b i)
reports-due it on origin longest b i = one (due_at longest b i) refl
  where
    one : (o : Option Report) → due_at longest b i ≡ o →
        All (λ (h : LineReport). due h.report ≡ origin + i)
        (map (line_report (Some on)) (option_to_list (option_map (moved origin) o)))
    one None is = All-nil _
    one (Some r) is = All-cons (λ (h : LineReport). due h.report ≡ origin + i) (line_report (Some on) (moved origin r))
        [] (due-moved origin r.kind r.first r.past ∙ ap (λ n. origin + n) ((it longest b i r).1 is).1) (All-nil _)

pub both-due : DueIsIt → (origin longest : ℕ) (b c : List Bool) (i : ℕ) →
    All (λ (h : LineReport). due h.report ≡ origin + i)
    (line_reports_at First origin longest b i ++ line_reports_at Second origin longest c i)
both-due it origin longest b c i =
    All-append (λ (h : LineReport). due h.report ≡ origin + i) (line_reports_at First origin longest b i)
    (line_reports_at Second origin longest c i) (reports-due it First origin longest b i)
    (reports-due it Second origin longest c i)

pub below : DueIsIt → (origin longest : ℕ) (b c : List Bool) (n : ℕ) →
    All (λ (h : LineReport). due h.report < origin + n)
    (flat_map (λ i. line_reports_at First origin longest b i ++ line_reports_at Second origin longest c i) (places n))
below it origin longest b c zero = All-nil _
below it origin longest b c (suc n) =
    let f : ℕ → List LineReport = λ i. line_reports_at First origin longest b i ++ line_reports_at Second origin longest
    c i in
    subst (All (λ (h : LineReport). due h.report < origin + suc n))
    (sym (flat_map-append f (places n) (n ∷ []) ∙ ap (λ ys. flat_map f (places n) ++ ys) (append-nil (f n))))
    (All-append (λ (h : LineReport). due h.report < origin + suc n) (flat_map f (places n)) (f n)
    (λ i d inside. let before = below it origin longest b c n i d inside in omega (arith, before))
    (λ i d inside. let here = both-due it origin longest b c n i d inside in omega (arith, here)))

-- of what is seen, what is due at a place
abbrev at : ℕ → SeenReport → Bool
at place s = due s.report == place

filter-none : (place : ℕ) (ss : List SeenReport) → All (λ (h : LineReport). due h.report < place) (map report_in ss) →
    filter (at place) ss ≡ []
filter-none place [] before = refl
filter-none place (s ∷ ss) before =
    let apart : (due s.report == place) ≡ false =
    ne_eqb (due s.report) place (λ same. omega (arith, same, before 0 (report_in s) (omega arith))) in
    rw apart (filter-none place ss (λ i d inside. before (suc i) d (omega (arith, inside))))

filter-all : (place : ℕ) (ss : List SeenReport) → All (λ (h : LineReport). due h.report ≡ place) (map report_in ss) →
    filter (at place) ss ≡ ss
filter-all place [] here = refl
filter-all place (s ∷ ss) here =
    let is : (due s.report == place) ≡ true = eq-eqb (due s.report) place (here 0 (report_in s) (omega arith)) in
    rw is (ap (λ xs. s ∷ xs) (filter-all place ss (λ i d inside. here (suc i) d (omega (arith, inside)))))

-- more reports are seen after those before
seen-on : (d : List FrameType) (hs more : List LineReport) → (rest : List SeenReport)
    × (seen d (hs ++ more) ≡ seen d hs ++ rest)
seen-on d hs [] = ([], ap (seen d) (append-nil hs) ∙ sym (append-nil (seen d hs)))
seen-on d hs (h ∷ more) =
    let rest = seen-on d (hs ++ h ∷ []) more in (
      _ ∷ rest.0,
      ap (seen d) (sym (append_assoc hs (h ∷ []) more))
          ∙ (rest.1 ∙ (ap (λ ss. ss ++ rest.0) (seen-more d hs h) ∙ append_assoc (seen d hs) (_ ∷ []) rest.0)),
    )

at-all : (d : List FrameType) (hs more : List LineReport) (place : ℕ) → All (λ (h : LineReport). due h.report < place)
    hs →
    All (λ (h : LineReport). due h.report ≡ place) more
    → seen d (hs ++ more) ≡ seen d hs ++ all_seen_at d (hs ++ more) place
at-all d hs more place before here =
    let rest = seen-on d hs more in
    let is : map report_in rest.0 ≡ more =
    append_cancel_left hs _ _ (ap (λ xs. xs ++ map report_in rest.0) (sym (seen-reports d hs))
    ∙ (sym (map-append report_in (seen d hs) rest.0)
    ∙ (ap (map report_in) (sym rest.1) ∙ seen-reports d (hs ++ more)))) in
    let found : all_seen_at d (hs ++ more) place ≡ rest.0 =
    ap (filter (at place)) rest.1 ∙ (filter-append (at place) (seen d hs) rest.0
    ∙ (ap (λ xs. xs ++ filter (at place) rest.0)
    (filter-none place (seen d hs)
    (subst (All (λ (h : LineReport). due h.report < place)) (sym (seen-reports d hs)) before))
    ∙ filter-all place rest.0 (subst (All (λ (h : LineReport). due h.report ≡ place)) (sym is) here))) in
    rest.1 ∙ ap (λ xs. seen d hs ++ xs) (sym found)

pub pairs-grow : DueStays → DueIsIt → PairsGrow
pairs-grow stays it = λ d longest origin ps p.
    let grown = merged-more stays origin longest ps p in
    let place : ℕ = origin + length ps in
    ap (seen d) grown
    ∙ (at-all d (merged origin longest ps) (added origin longest ps p) place
    (below it origin longest (firsts ps) (seconds ps) (length ps))
    (both-due it origin longest (firsts ps ++ p.0 ∷ []) (seconds ps ++ p.1 ∷ []) (length ps))
    ∙ ap (λ hs. seen d (merged origin longest ps) ++ all_seen_at d hs place) (sym grown))

-- what a pair adds is what is seen at its place
pub answer-pair : {C : Type 0} (view : CheckView C) (a : PairState C) (ps : List (Bool × Bool))
    (p : Bool × Bool) (told : List SeenReport) → PairsGrow → IsAfterPairs view a ps
    → seen_after_pairs a (ps ++ p ∷ []) ≡ seen_after_pairs a ps ++ told →
    told ≡ all_seen_at a.conversation.dictionary (pair_reports a (ps ++ p ∷ [])) a.first.place
answer-pair view a ps p told grows reached adds =
    let d = a.conversation.dictionary in
    let hs = pair_reports a (ps ++ p ∷ []) in
    append_cancel_left (seen_after_pairs a ps) _ _ (sym adds ∙ grows d (longest_of d) a.first.origin ps p)
    ∙ ap (all_seen_at d hs) (ap (λ n. a.first.origin + n) (sym (length-firsts ps)) ∙ sym reached.first.has_taken.place)

-- the steps of a decoder, and those that its reports add
line-ledger : (cost longest : ℕ) (b : List Bool) (d : Spent) → IsLineLedger cost longest b d →
    IsAnalyserLedger cost longest b (record d { copied = copied longest b; handled = handled (reports longest b) })
line-ledger cost longest b d ledger = record {
  bits = ledger.bits;
  settled = ledger.settled;
  filled = ledger.filled;
  paid = ledger.paid;
  kept = refl;
  reported = refl;
}

copied-of_one : (on : Line) (origin longest : ℕ) (b : List Bool) →
    copied_of (of_one on origin longest b) ≡ copied longest b
copied-of_one on origin longest b = reports-octets (Some on) (placed origin longest b)
    ∙ octets-moved origin (reports longest b)

handled-of_one : (on : Line) (origin longest : ℕ) (b : List Bool) →
    handled_of (of_one on origin longest b) ≡ handled (reports longest b)
handled-of_one on origin longest b = reports-steps (Some on) (placed origin longest b)
    ∙ steps-moved origin (reports longest b)

pub pair-ledger : {C : Type 0} (view : CheckView C) (a : PairState C) (ps : List (Bool × Bool))
    (d e j : Spent) → IsAfterPairs view a ps
    → IsLineLedger view.cost a.first.longest (firsts ps) d → IsLineLedger view.cost a.second.longest (seconds ps) e →
    j.copied ≡ a.conversation.copied → j.handled ≡ a.conversation.handled
    → IsPairLedger view.cost (longest_of a.conversation.dictionary) ps
    (record {
      shifted = d.shifted + e.shifted;
      assembled = d.assembled + e.assembled;
      folded = d.folded + e.folded;
      stored = d.stored + e.stored;
      copied = j.copied;
      handled = j.handled;
    })
pair-ledger view a ps d e j reached first second copied_is handled_is =
    let longest = longest_of a.conversation.dictionary in
    let o = a.first.origin in
    let kept : j.copied ≡ copied longest (firsts ps) + copied longest (seconds ps) =
    copied_is ∙ reached.conversation.copied
    ∙ omega (
      arith,
      merged-adds copied_of refl copied-adds o longest ps,
      copied-of_one First o longest (firsts ps),
      copied-of_one Second o longest (seconds ps),
    ) in
    let told : j.handled ≡ handled (reports longest (firsts ps)) + handled (reports longest (seconds ps)) =
    handled_is ∙ reached.conversation.handled
    ∙ omega (
      arith,
      merged-adds handled_of refl handled-adds o longest ps,
      handled-of_one First o longest (firsts ps),
      handled-of_one Second o longest (seconds ps),
    ) in
    record {
      first = record d { copied = copied longest (firsts ps); handled = handled (reports longest (firsts ps)) };
      second = record e { copied = copied longest (seconds ps); handled = handled (reports longest (seconds ps)) };
      first_is = line-ledger view.cost longest (firsts ps) d (rw (← reached.longest) first);
      second_is = line-ledger view.cost longest (seconds ps) e (rw (← reached.longest_second) second);
      sum = rw (kept, told) refl;
    }

plus-total : (s t : Spent) → total (sum_of_steps s t) ≡ total s + total t
plus-total s t = omega arith

-- and so four a bit, and three
pub pair-four : (cost longest : ℕ) (ps : List (Bool × Bool)) (spent : Spent) → StepsWithinFour → cost ≤ 8 →
    IsPairLedger cost longest ps spent → total spent ≤ 4 * (2 * length ps)
pair-four cost longest ps spent four cost_within ledger =
    omega (
      arith,
      ap total ledger.sum,
      plus-total ledger.first ledger.second,
      four cost longest (firsts ps) ledger.first ledger.first_is cost_within,
      four cost longest (seconds ps) ledger.second ledger.second_is cost_within,
      length-firsts ps,
      length-seconds ps,
    )

pub pair-three : (longest : ℕ) (ps : List (Bool × Bool)) (spent : Spent) → StepsWithinThree →
    IsPairLedger 1 longest ps spent → (spent.folded ≡ spent.stored) × (total spent ≤ 3 * (2 * length ps))
pair-three longest ps spent three ledger =
    let first = three longest (firsts ps) ledger.first ledger.first_is in
    let second = three longest (seconds ps) ledger.second ledger.second_is in (
      rw (ledger.sum) (omega (arith, first.0, second.0)),
      omega (
        arith,
        ap total ledger.sum,
        plus-total ledger.first ledger.second,
        first.1,
        second.1,
        length-firsts ps,
        length-seconds ps,
      ),
    )

-- what a decoder counts is no more than eight times the bits
counts-within : (cost longest : ℕ) (b : List Bool) (d : Spent) → StoredPaid → AssembledWithin → cost ≤ 8 →
    IsLineLedger cost longest b d
    → (d.shifted ≤ length b) × (d.assembled ≤ length b) × (d.folded ≤ length b) × (d.stored ≤ length b)
counts-within cost longest b d paid within cost_within ledger =
    let folded = cost-within cost (stored longest b) cost_within in (
      omega (arith, ledger.bits),
      omega (arith, ledger.settled, within b),
      omega (arith, ledger.paid, folded, paid longest b, within b),
      omega (arith, ledger.filled, paid longest b, within b),
    )

-- and two decoders no more than twice their places
pub both-within : {C : Type 0} (view : CheckView C) (a : PairState C) (ps : List (Bool × Bool))
    (d e : Spent) → StoredPaid → AssembledWithin → view.cost ≤ 8 → IsAfterPairs view a ps
    → IsLineLedger view.cost a.first.longest (firsts ps) d → IsLineLedger view.cost a.second.longest (seconds ps) e
    → (d.shifted + e.shifted ≤ 2 * a.first.place) × (d.assembled + e.assembled ≤ 2 * a.first.place)
    × (d.folded + e.folded ≤ 2 * a.first.place) × (d.stored + e.stored ≤ 2 * a.first.place)
both-within view a ps d e paid within cost_within reached first second =
    let one = counts-within view.cost a.first.longest (firsts ps) d paid within cost_within first in
    let two = counts-within view.cost a.second.longest (seconds ps) e paid within cost_within second in
    let few : length (firsts ps) + length (seconds ps) ≤ 2 * a.first.place =
    omega (arith, reached.first.has_taken.place, length-firsts ps, length-seconds ps) in (
      omega (arith, one.0, two.0, few),
      omega (arith, one.1, two.1, few),
      omega (arith, one.2, two.2, few),
      omega (arith, one.3, two.3, few),
    )

-- seventeen a bit follow from four
pub pair-seventeen : (ps : List (Bool × Bool)) (spent : Spent) → total spent ≤ 4 * (2 * length ps) →
    total spent ≤ 17 * (2 * length ps)
pair-seventeen ps spent four = omega (arith, four)
