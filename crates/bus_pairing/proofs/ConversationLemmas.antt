-- One report more: the tally, the history and the steps of a conversation.
use Rattle.std.proofs.Common.{◌≡◌, ◌≢◌, ℕ, ◌+◌, ◌<◌, ◌-◌, ◌==◌, ◌&&◌, Bool, true, false, if◌then◌else◌, List, [], ◌∷◌}
use Rattle.std.proofs.Common.{◌++◌, length, drop, Option, Some, None, inl, inr, refl, sym, ap, ◌∙◌, arith, subst}
use Rattle.std.proofs.Common.{slice_get, map, replicate}
use Rattle.std.specs.List.{cons_option, All}
use Rattle.std.specs.Option.{option_to_list}
use Rattle.std.proofs.lemmas.List.{length-append, length-drop, drop-append-le, drop-drop, drop-map, map-append}
use Rattle.std.proofs.lemmas.List.{length-map, append-nil, length-replicate, get_or-replicate}
use Rattle.std.proofs.lemmas.Option.{slice_get-get_or, slice_get_cases}
use Rattle.std.proofs.lemmas.List.Elements.{filter_map-append, All-nil, All-cons, All-drop}
use Rattle.std.proofs.lemmas.List.Sums.{sum_by_push}
use Rattle.circular_buffer.specs.Buffer.{keep_last}
use Rattle.bus_bits.specs.declared.span.Span.{Span}
use Rattle.bus_line.specs.Report.{Report, Kind, Frame, Damaged, Overlong, Abort, Idle}
use Rattle.bus_line.specs.Shown.{kind_with, span_of}
use Rattle.bus_line.specs.declared.event.EventKind.{EventKind}
use Rattle.bus_line.specs.declared.event.EventKind.TheVariants as event
use Rattle.bus_line.specs.LineReport.{LineReport, of_line}
use Rattle.bus_line.specs.declared.line.Line.{Line}
use Rattle.bus_line.specs.declared.line.Line.TheVariants.{First}
use Rattle.bus_line.specs.Ledger.{octet_count, kind_octets}
use Rattle.bus_dictionary.specs.Entry.{FrameType}
use Rattle.bus_pairing.specs.Talk.{verdicts, pending}
use Rattle.bus_pairing.specs.Seen.{SeenReport, decided}
use Rattle.bus_pairing.specs.History.{KeptFrame, kept_frame, frame_at, frame_of, frames, history, tally}
use Rattle.bus_pairing.specs.History.{verdicts_of, is_outcome, kept_pair}
use Rattle.bus_pairing.specs.Ledger.{kind_steps, steps}
use Rattle.bus_pairing.specs.Internal.Counted.{one_more, counted, Counted}
use Rattle.bus_pairing.specs.Conversation.{AdvancesPairing, ConversationState, AdvancesConversation, ConversationAfter}
use Rattle.bus_pairing.specs.declared.pair_kept.PairKept.{PairKept}
use Rattle.bus_pairing.specs.declared.counts.Counts.{Counts}
use Rattle.bus_pairing.specs.declared.outcome.Outcome.{Outcome}
use Rattle.bus_pairing.specs.declared.outcome.Outcome.TheVariants.{Answered, Late, Missing, Spoilt}
use Rattle.bus_pairing.specs.declared.verdict.Verdict.{Verdict}
use Rattle.bus_pairing.proofs.TalkLemmas.{verdicts-more}

-- the tally of some verdicts
abbrev tally-of : List Verdict → ℕ → Counts
tally-of vs station = record {
  answered = verdicts_of Answered station vs;
  missing = verdicts_of Missing station vs;
  spoilt = verdicts_of Spoilt station vs;
  late = verdicts_of Late station vs;
}

same-counts : (a b : Counts) → a.answered ≡ b.answered → a.missing ≡ b.missing → a.spoilt ≡ b.spoilt → a.late ≡ b.late →
    a ≡ b
same-counts a b answered missing spoilt late = one b.answered b.missing b.spoilt b.late answered missing spoilt late
  where
    one : (x y z w : ℕ) → a.answered ≡ x → a.missing ≡ y → a.spoilt ≡ z → a.late ≡ w →
        a ≡ record { answered = x; missing = y; spoilt = z; late = w }
    one x y z w answered missing spoilt late = rw (← answered, ← missing, ← spoilt, ← late) refl

abbrev added : Outcome → Bool → Counts → Counts
added o b c =
    record {
      answered = c.answered + (if is_outcome Answered o && b then 1 else 0);
      missing = c.missing + (if is_outcome Missing o && b then 1 else 0);
      spoilt =
          c.spoilt + (if is_outcome Spoilt o && b then 1 else 0);
      late = c.late + (if is_outcome Late o && b then 1 else 0);
    }

count-one : (vs : List Verdict) (v : Verdict) (station : ℕ) →
    tally-of (vs ++ v ∷ []) station ≡ counted station (Some v) (tally-of vs station)
count-one vs v station =
    same-counts _ _ (sum_by_push _ vs v) (sum_by_push _ vs v) (sum_by_push _ vs v) (sum_by_push _ vs v)
    ∙ one v.outcome (v.station == station) (tally-of vs station)
  where
    one : (o : Outcome) (b : Bool) (c : Counts)
        → added o b c ≡ (if b then one_more o c else c)
    one Answered true c = same-counts _ _ refl (omega arith) (omega arith) (omega arith)
    one Missing true c = same-counts _ _ (omega arith) refl (omega arith) (omega arith)
    one Spoilt true c = same-counts _ _ (omega arith) (omega arith) refl (omega arith)
    one Late true c = same-counts _ _ (omega arith) (omega arith) (omega arith) refl
    one Answered false c = same-counts _ _ (omega arith) (omega arith) (omega arith) (omega arith)
    one Missing false c = same-counts _ _ (omega arith) (omega arith) (omega arith) (omega arith)
    one Spoilt false c = same-counts _ _ (omega arith) (omega arith) (omega arith) (omega arith)
    one Late false c = same-counts _ _ (omega arith) (omega arith) (omega arith) (omega arith)

tally-option : (vs : List Verdict) (o : Option Verdict) (station : ℕ) →
    tally-of (vs ++ option_to_list o) station ≡ counted station o (tally-of vs station)
tally-option vs None station = ap (λ xs. tally-of xs station) (append-nil vs)
tally-option vs (Some v) station = count-one vs v station

pub tally-more : (d : List FrameType) (rs : List LineReport) (r : LineReport) (station : ℕ) →
    tally d (rs ++ r ∷ []) station ≡ counted station (decided d rs r) (tally d rs station)
tally-more d rs r station = ap (λ vs. tally-of vs station) (verdicts-more d rs r)
    ∙ tally-option (verdicts d rs) (decided d rs r) station

-- to keep the last of what was kept, and one more, is to keep the last of all
keep_last-more : {X : Type 0} (n : ℕ) (xs : List X) (x : X) →
    keep_last n (keep_last n xs ++ x ∷ []) ≡ keep_last n (xs ++ x ∷ [])
keep_last-more {X} n xs x =
    let m : ℕ = length xs - n in
    let front : drop m xs ++ x ∷ [] ≡ drop m (xs ++ x ∷ []) = sym (drop-append-le m xs (x ∷ []) (omega arith)) in
    let count : m + (length (drop m xs ++ x ∷ []) - n) ≡ length (xs ++ x ∷ []) - n =
    omega (arith, length-append (drop m xs) (x ∷ []), length-append xs (x ∷ []), length-drop m xs) in
    ap (λ l. drop (length (drop m xs ++ x ∷ []) - n) l) front
    ∙ drop-drop (length (drop m xs ++ x ∷ []) - n) m (xs ++ x ∷ []) ∙ ap (λ k. drop k (xs ++ x ∷ [])) count

pub keep_last-map : {X Y : Type 0} (f : X → Y) (n : ℕ) (xs : List X) → map f (keep_last n xs) ≡ keep_last n (map f xs)
keep_last-map f n xs = sym (drop-map f (length xs - n) xs) ∙ ap (λ k. drop (k - n) (map f xs)) (sym (length-map xs f))

pub keep-frame : (n : ℕ) (ks : List PairKept) (k : PairKept) (f : KeptFrame) → kept_pair k ≡ f →
    map kept_pair (keep_last n (ks ++ k ∷ [])) ≡ keep_last n (map kept_pair ks ++ f ∷ [])
keep-frame n ks k f same = keep_last-map kept_pair n (ks ++ k ∷ [])
    ∙ ap (keep_last n) (map-append kept_pair ks (k ∷ []) ∙ ap (λ g. map kept_pair ks ++ g ∷ []) same)

pub slice_get-replicate : {X : Type 0} (n : ℕ) (x : X) (i : ℕ) → i < n → slice_get (replicate n x) i ≡ Some x
slice_get-replicate n x i within = slice_get-get_or (replicate n x) i x (omega (arith, length-replicate n x))
    ∙ ap Some (get_or-replicate n i x x within)

frames-more : (rs : List LineReport) (r : LineReport) → frames (rs ++ r ∷ []) ≡ frames rs ++ cons_option (frame_of r) []
frames-more rs r = filter_map-append frame_of rs (r ∷ [])

-- what was kept, and one frame more where it is one
abbrev keeping : ℕ → List KeptFrame → Option KeptFrame → List KeptFrame
keeping depth kept None = kept
keeping depth kept (Some f) = keep_last depth (kept ++ f ∷ [])

history-more : (depth : ℕ) (rs : List LineReport) (r : LineReport) →
    history depth (rs ++ r ∷ []) ≡ keeping depth (history depth rs) (frame_of r)
history-more depth rs r = ap (keep_last depth) (frames-more rs r) ∙ one (frame_of r)
  where
    one : (o : Option KeptFrame) → keep_last depth (frames rs ++ cons_option o []) ≡ keeping depth (history depth rs) o
    one None = ap (keep_last depth) (append-nil (frames rs))
    one (Some f) = sym (keep_last-more depth (frames rs) f)

-- what a report changes in a conversation
pub record Takes (old new : ConversationState) (r : LineReport) (verdict : Option Verdict) : Type 0 where
  pub dictionary : new.dictionary ≡ old.dictionary
  pub depth : new.depth ≡ old.depth
  pub history : new.history ≡ keeping old.depth old.history (frame_of r)
  pub tally : Counted verdict old.tally new.tally
  pub copied : new.copied ≡ old.copied + octet_count r.report
  pub handled : new.handled ≡ old.handled + steps r.report

pub keeps-more : (old new : ConversationState) (rs : List LineReport) (r : LineReport) → ConversationAfter old rs →
    new.waiting ≡ pending old.dictionary (rs ++ r ∷ []) → Takes old new r (decided old.dictionary rs r) →
    ConversationAfter new (rs ++ r ∷ [])
keeps-more old new rs r kept waiting takes = record {
  history = takes.history ∙ ap (λ h. keeping old.depth h (frame_of r)) kept.history ∙ sym (history-more old.depth rs r)
      ∙ ap (λ n. history n (rs ++ r ∷ [])) (sym takes.depth);
  waiting = waiting ∙ ap (λ d. pending d (rs ++ r ∷ [])) (sym takes.dictionary);
  tally = λ station within. takes.tally station _ (kept.tally station within)
      ∙ ap Some (sym (tally-more old.dictionary rs r station)
      ∙ ap (λ d. tally d (rs ++ r ∷ []) station) (sym takes.dictionary));
  copied =
      takes.copied ∙ (ap (λ n. n + octet_count r.report) kept.copied
      ∙ sym (sum_by_push (λ (h : LineReport). octet_count h.report) rs r));
  handled =
      takes.handled ∙ (ap (λ n. n + steps r.report) kept.handled
      ∙ sym (sum_by_push (λ (h : LineReport). steps h.report) rs r));
}

pub enters : (old new : ConversationState) (r : LineReport) (found : SeenReport)
    → AdvancesPairing old.dictionary old.waiting r found new.waiting → Takes old new r found.verdict
    → AdvancesConversation old r found new
enters old new r found pairing takes = record {
  keeps = λ hs kept. keeps-more old new hs r kept (pairing.keeps hs kept.waiting)
      (subst (λ (s : SeenReport). Takes old new r s.verdict) (pairing.says hs kept.waiting) takes);
  says = λ hs kept. pairing.says hs kept.waiting;
  dictionary = takes.dictionary;
  depth = takes.depth;
}

-- a report that is no frame leaves the history and the copied octets, and has three steps
pub record IsNoFrame (kind : Kind) : Type 0 where
  pub no_frame : (line : Line) (span : Span) → frame_at line span kind ≡ None
  pub no_octets : kind_octets kind ≡ 0
  pub three : kind_steps kind ≡ 3

pub no-frame : (octets : List ℕ) (kind : EventKind) → kind ≢ event.Frame → IsNoFrame (kind_with octets kind)
no-frame octets event.Frame other = absurd (other refl)
no-frame octets (event.Damaged cause) other = record { no_frame = λ line span. refl; no_octets = refl; three = refl }
no-frame octets event.Overlong other = record { no_frame = λ line span. refl; no_octets = refl; three = refl }
no-frame octets event.Abort other = record { no_frame = λ line span. refl; no_octets = refl; three = refl }
no-frame octets event.Idle other = record { no_frame = λ line span. refl; no_octets = refl; three = refl }

-- frames of the only line count as the first's
abbrev IsFirst : KeptFrame → Type 0
IsFirst f = f.line ≡ First

one-first : (span : Span) (fs : List KeptFrame) → All IsFirst fs → (k : Kind) →
    All IsFirst (cons_option (frame_at First span k) fs)
one-first span fs firsts (Frame octets) =
    All-cons IsFirst (record { line = First; span = span; octets = octets }) fs refl firsts
one-first span fs firsts (Damaged cause) = firsts
one-first span fs firsts Overlong = firsts
one-first span fs firsts Abort = firsts
one-first span fs firsts Idle = firsts

frames-first : (rs : List Report) → All IsFirst (frames (of_line rs))
frames-first [] = All-nil IsFirst
frames-first (r ∷ rs) = one-first (span_of r) (frames (of_line rs)) (frames-first rs) r.kind

same-item : {X : Type 0} (x y : X) → Some x ≡ Some y → x ≡ y
same-item x y same = cc

all-at : {X : Type 0} (P : X → Type 0) (xs : List X) (i : ℕ) (x : X) → All P xs → slice_get xs i ≡ Some x → P x
all-at P xs i x all at = elim ((slice_get_cases xs i).1) [
  | inl found ↦ subst P (found.3 ∙ same-item found.0 x (sym found.2 ∙ at)) (all i found.0 found.1)
  | inr beyond ↦ absurd (let none = beyond.1 in cc)
]

-- what is kept of the only line
pub history-at : (kept : List KeptFrame) (depth : ℕ) (rs : List Report) (i : ℕ) (k : PairKept) →
    kept ≡ history depth (of_line rs) → Some (kept_pair k) ≡ slice_get kept i
    → Some (kept_frame k.kept) ≡ slice_get kept i
history-at kept depth rs i k is item =
    let here : slice_get (history depth (of_line rs)) i ≡ Some (kept_pair k) =
    ap (λ (l : List KeptFrame). slice_get l i) (sym is) ∙ sym item in
    let first : k.line ≡ First =
    all-at IsFirst (history depth (of_line rs)) i (kept_pair k)
    (All-drop IsFirst (length (frames (of_line rs)) - depth) (frames (of_line rs)) (frames-first rs)) here in
    ap (λ (l : Line). Some (kept_pair (record { line = l; kept = k.kept }))) (sym first) ∙ item
