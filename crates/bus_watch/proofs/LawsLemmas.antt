-- What is seen, as laws say it.
use Rattle.std.proofs.Common.{◌≡◌, ℕ, suc, ◌+◌, ◌<◌, ◌==◌, Bool, true, false, List, [], ◌∷◌, ◌++◌, length, Option, Some}
use Rattle.std.proofs.Common.{None, refl, sym, ap, ◌∙◌, arith, map, get_or, append-nil}
use Rattle.std.specs.List.{filter_map, cons_option, find, All}
use Rattle.std.specs.Option.{option_or, option_map, option_to_list}
use Rattle.std.proofs.lemmas.List.{map-append, append_cancel_left}
use Rattle.std.proofs.lemmas.List.Elements.{filter_map-append, All-map, Contains-get_or}
use Rattle.std.proofs.lemmas.Bool.{ne_eqb, eq-eqb}
use Rattle.std.proofs.lemmas.List.Folds.{find-append}
use Rattle.bus_bits.proofs.OneMoreLemmas.{one-by-one}
use Rattle.bus_fcs.specs.Check.{CheckView}
use Rattle.bus_line.specs.Report.{Report, Kind, Frame, Damaged, Overlong, Abort, Idle, due, due_by, moved}
use Rattle.bus_line.specs.Laws.{OneMore, DueIsIt}
use Rattle.bus_line.specs.Due.{placed, reports, due_at}
use Rattle.bus_dictionary.specs.Entry.{FrameType}
use Rattle.bus_dictionary.specs.Dictionary.{longest_of}
use Rattle.bus_pairing.specs.Talk.{verdicts}
use Rattle.bus_line.specs.LineReport.{LineReport, line_report, of_line}
use Rattle.bus_pairing.specs.Seen.{SeenReport, report_in, decided, seen_of, seen, seen_at}
use Rattle.bus_watch.specs.After.{AnalyserState, IsAfter, line_reports, seen_after}
use Rattle.bus_watch.specs.Laws.{SeenGrows}
use Rattle.bus_pairing.proofs.TalkLemmas.{verdicts-more}
use Rattle.bus_pairing.specs.declared.verdict.Verdict.{Verdict}
use Rattle.bus_pairing.proofs.LedgerLemmas.{DueBelow}
use Rattle.bus_pairing.proofs.SeenLemmas.{seen-more}
use Rattle.bus_watch.proofs.MergedLemmas.{bit-adds}

pub seen-reports : (d : List FrameType) (rs : List LineReport) → map report_in (seen d rs) ≡ rs
seen-reports d rs =
    one-by-one (λ rs. map report_in (seen d rs) ≡ rs) refl
    (λ rs r same. ap (map report_in) (seen-more d rs r)
    ∙ (map-append report_in (seen d rs) (seen_of d rs r ∷ []) ∙ ap (λ xs. xs ++ r ∷ []) same))
    rs

verdict-option : (o : Option Verdict) → cons_option o [] ≡ option_to_list o
verdict-option None = refl
verdict-option (Some v) = refl

pub seen-decides : (d : List FrameType) (rs : List LineReport) →
    filter_map (λ (s : SeenReport). s.verdict) (seen d rs) ≡ verdicts d rs
seen-decides d rs =
    one-by-one (λ rs. filter_map (λ (s : SeenReport). s.verdict) (seen d rs) ≡ verdicts d rs) refl
    (λ rs r same. ap (filter_map (λ (s : SeenReport). s.verdict)) (seen-more d rs r)
    ∙ (filter_map-append (λ (s : SeenReport). s.verdict) (seen d rs) (seen_of d rs r ∷ [])
    ∙ (ap (λ vs. vs ++ cons_option (decided d rs r) []) same
    ∙ (ap (λ vs. verdicts d rs ++ vs) (verdict-option (decided d rs r)) ∙ sym (verdicts-more d rs r)))))
    rs

pub due-moved : (origin : ℕ) (kind : Kind) (first past : ℕ) →
    due_by kind (origin + first) (origin + past) ≡ origin + due_by kind first past
due-moved origin (Frame octets) first past = omega arith
due-moved origin (Damaged cause) first past = omega arith
due-moved origin Overlong first past = omega arith
due-moved origin Abort first past = omega arith
due-moved origin Idle first past = omega arith

-- nothing is due where all reports are due before
find-none : (place : ℕ) (ss : List SeenReport) → All (λ (h : LineReport). due h.report < place) (map report_in ss) →
    find (λ (s : SeenReport). due s.report == place) ss ≡ None
find-none place [] before = refl
find-none place (s ∷ ss) before =
    let apart : (due s.report == place) ≡ false =
    ne_eqb (due s.report) place (λ same. omega (arith, same, before 0 (report_in s) (omega arith))) in
    rw apart (find-none place ss (λ i d inside. before (suc i) d (omega (arith, inside))))

line-due : (longest origin : ℕ) (b : List Bool) → DueBelow →
    All (λ r. due r < origin + length b) (placed origin longest b)
line-due longest origin b below =
    All-map (λ r. due r < origin + length b) (moved origin) (reports longest b) (λ i d inside.
    let r = get_or (reports longest b) i d in
    omega (
      arith,
      below longest b r (Contains-get_or (reports longest b) i d inside),
      due-moved origin r.kind r.first r.past,
    ))

line-reported : (longest origin : ℕ) (b : List Bool) → DueBelow →
    All (λ (h : LineReport). due h.report < origin + length b) (of_line (placed origin longest b))
line-reported longest origin b below =
    All-map (λ (h : LineReport). due h.report < origin + length b) (line_report None) (placed origin longest b)
    (line-due longest origin b below)

at-none : (d : List FrameType) (rs : List LineReport) (place : ℕ) → All (λ (h : LineReport). due h.report < place) rs →
    seen_at d rs place ≡ None
at-none d rs place before =
    find-none place (seen d rs) (rw (seen-reports d rs) before)

at-last : (d : List FrameType) (rs : List LineReport) (r : LineReport) (place : ℕ) →
    All (λ (h : LineReport). due h.report < place) rs → due r.report ≡ place →
    seen_at d (rs ++ r ∷ []) place ≡ Some (seen_of d rs r)
at-last d rs r place before here =
    let p : SeenReport → Bool = λ s. due s.report == place in
    let yes : (due r.report == place) ≡ true = eq-eqb (due r.report) place here in
    ap (find p) (seen-more d rs r)
    ∙ (find-append p (seen d rs) (seen_of d rs r ∷ [])
    ∙ (ap (λ o. option_or o (find p (seen_of d rs r ∷ []))) (at-none d rs place before) ∙ rw yes refl))

grows-by : (d : List FrameType) (longest origin : ℕ) (b longer : List Bool) → DueIsIt → DueBelow → (o : Option Report) →
    due_at longest longer (length b) ≡ o
    → placed origin longest longer ≡ placed origin longest b ++ option_to_list (option_map (moved origin) o)
    → seen d (of_line (placed origin longest longer)) ≡ seen d (of_line (placed origin longest b))
    ++ option_to_list (seen_at d (of_line (placed origin longest longer)) (origin + length b))
grows-by d longest origin b longer it below None due_is grown =
    let hs = of_line (placed origin longest b) in
    let same : of_line (placed origin longest longer) ≡ hs =
    ap of_line (grown ∙ append-nil (placed origin longest b)) in
    rw (same, at-none d hs (origin + length b) (line-reported longest origin b below)) (sym (append-nil (seen d hs)))
grows-by d longest origin b longer it below (Some r) due_is grown =
    let rs = placed origin longest b in
    let h : LineReport = line_report None (moved origin r) in
    let is : due r ≡ length b = ((it longest longer (length b) r).1 due_is).1 in
    let at : due (moved origin r) ≡ origin + length b =
    due-moved origin r.kind r.first r.past ∙ ap (λ n. origin + n) is in
    let more : of_line (placed origin longest longer) ≡ of_line rs ++ h ∷ [] =
    ap of_line grown ∙ map-append (line_report None) rs (moved origin r ∷ []) in
    rw (more, at-last d (of_line rs) h (origin + length b) (line-reported longest origin b below) at)
    (seen-more d (of_line rs) h)

pub seen-grows : OneMore → DueIsIt → DueBelow → SeenGrows
seen-grows more it below = λ d longest origin b bit.
    grows-by d longest origin b (b ++ bit ∷ []) it below _ refl (bit-adds more origin longest b bit)

same-told : (o p : Option SeenReport) → option_to_list o ≡ option_to_list p → o ≡ p
same-told None None same = refl
same-told None (Some s) same = absurd (omega (arith, ap length same))
same-told (Some s) None same = absurd (omega (arith, ap length same))
same-told (Some s) (Some t) same = cc

-- what a bit adds is what is seen at its place
pub answer-is : {C : Type 0} (view : CheckView C) (a : AnalyserState C) (b : List Bool)
    (bit : Bool) (o : Option SeenReport) → SeenGrows → IsAfter view a b
    → seen_after a (b ++ bit ∷ []) ≡ seen_after a b ++ option_to_list o →
    o ≡ seen_at a.conversation.dictionary (line_reports a (b ++ bit ∷ [])) a.decoder.place
answer-is view a b bit o grows reached adds =
    let d = a.conversation.dictionary in
    let rs = line_reports a (b ++ bit ∷ []) in
    let at : o ≡ seen_at d rs (a.decoder.origin + length b) =
    same-told o (seen_at d rs (a.decoder.origin + length b))
    (append_cancel_left (seen_after a b) _ _ (sym adds ∙ grows d (longest_of d) a.decoder.origin b bit)) in
    at ∙ ap (seen_at d rs) (sym reached.decoder.has_taken.place)
