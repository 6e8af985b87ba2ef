-- One report more: the talk, its verdicts, the command that waits, and the tally.
use Rattle.std.proofs.Common.{◌≡◌, not, Bool, true, false, if◌then◌else◌, List, [], ◌∷◌, ◌++◌, Option, Some, None, refl}
use Rattle.std.proofs.Common.{sym, ap, ◌∙◌}
use Rattle.std.specs.List.{filter_map, cons_option, last_or}
use Rattle.std.specs.Option.{option_map, option_and_then, option_to_list}
use Rattle.std.proofs.lemmas.List.{append-nil}
use Rattle.std.proofs.lemmas.List.Elements.{filter-append, filter_map-append}
use Rattle.bus_line.specs.LineReport.{LineReport}
use Rattle.bus_dictionary.specs.Entry.{FrameType}
use Rattle.bus_pairing.specs.Talk.{is_idle_kind, talk, neighbours, begins, waits, verdict, verdict_on, verdicts}
use Rattle.bus_pairing.specs.Talk.{pending}
use Rattle.bus_pairing.specs.Seen.{decided}
use Rattle.bus_pairing.specs.declared.pending.Pending.{Pending}
use Rattle.bus_pairing.specs.declared.verdict.Verdict.{Verdict}

pub last_or-push : {A : Type 0} (o : Option A) (xs : List A) (x : A) → last_or o (xs ++ x ∷ []) ≡ Some x
last_or-push o [] x = refl
last_or-push o (y ∷ xs) x = last_or-push (Some y) xs x

-- a neighbour more, of the last item
abbrev paired : {A : Type 0} → Option A → A → List (A × A)
paired None x = []
paired (Some y) x = (y, x) ∷ []

neighbours-from : {A : Type 0} (y : A) (xs : List A) (x : A) →
    neighbours (y ∷ (xs ++ x ∷ [])) ≡ neighbours (y ∷ xs) ++ paired (last_or (Some y) xs) x
neighbours-from y [] x = refl
neighbours-from y (z ∷ xs) x = ap (λ ps. (y, z) ∷ ps) (neighbours-from z xs x)

neighbours-push : {A : Type 0} (xs : List A) (x : A) →
    neighbours (xs ++ x ∷ []) ≡ neighbours xs ++ paired (last_or None xs) x
neighbours-push [] x = refl
neighbours-push (y ∷ xs) x = neighbours-from y xs x

talk-more : (rs : List LineReport) (r : LineReport) → talk (rs ++ r ∷ [])
    ≡ talk rs ++ (if is_idle_kind r.report.kind then [] else r ∷ [])
talk-more rs r = filter-append _ rs (r ∷ []) ∙ ap (λ xs. talk rs ++ xs) (one (is_idle_kind r.report.kind))
  where
    one : (b : Bool) → (if not b then r ∷ [] else []) ≡ (if b then [] else r ∷ [])
    one true = refl
    one false = refl

talk-idle : (rs : List LineReport) (r : LineReport) → is_idle_kind r.report.kind ≡ true → talk (rs ++ r ∷ []) ≡ talk rs
talk-idle rs r idle = talk-more rs r ∙ rw idle (append-nil (talk rs))

talk-one : (rs : List LineReport) (r : LineReport) → is_idle_kind r.report.kind ≡ false
    → talk (rs ++ r ∷ []) ≡ talk rs ++ r
    ∷ []
talk-one rs r talks = talk-more rs r ∙ rw talks refl

-- of a talk
abbrev pending-of : List FrameType → List LineReport → Option Pending
pending-of d xs = option_and_then (waits d) (last_or None xs)

pub pending-idle : (d : List FrameType) (rs : List LineReport) (r : LineReport) → is_idle_kind r.report.kind ≡ true →
    pending d (rs ++ r ∷ []) ≡ pending d rs
pending-idle d rs r idle = ap (pending-of d) (talk-idle rs r idle)

pub pending-talk : (d : List FrameType) (rs : List LineReport) (r : LineReport) → is_idle_kind r.report.kind ≡ false →
    pending d (rs ++ r ∷ []) ≡ waits d r
pending-talk d rs r talks =
    ap (pending-of d) (talk-one rs r talks)
    ∙ ap (option_and_then (waits d)) (last_or-push None (talk rs) r)

pub decided-idle : (d : List FrameType) (rs : List LineReport) (r : LineReport) → is_idle_kind r.report.kind ≡ true →
    decided d rs r ≡ None
decided-idle d rs r idle = rw idle refl

-- the verdict on the left neighbour is that on the command that waits
judged : (d : List FrameType) (r : LineReport) (o : Option LineReport) →
    option_and_then (λ left. verdict_on d left r) o ≡ option_map (verdict d (begins d r)) (option_and_then (waits d) o)
judged d r None = refl
judged d r (Some left) = refl

pub decided-talk : (d : List FrameType) (rs : List LineReport) (r : LineReport) → is_idle_kind r.report.kind ≡ false →
    decided d rs r ≡ option_map (verdict d (begins d r)) (pending d rs)
decided-talk d rs r talks = rw talks (judged d r (last_or None (talk rs)))

abbrev verdicts-of : (d : List FrameType) (ps : List (LineReport × LineReport)) → List Verdict
verdicts-of d ps = filter_map (λ pair. verdict_on d pair.0 pair.1) ps

judged-pair : (d : List FrameType) (o : Option LineReport) (r : LineReport) →
    verdicts-of d (paired o r) ≡ option_to_list (option_and_then (λ left. verdict_on d left r) o)
judged-pair d None r = refl
judged-pair d (Some left) r = one (verdict_on d left r)
  where
    one : (v : Option Verdict) → cons_option v [] ≡ option_to_list v
    one None = refl
    one (Some v) = refl

pub verdicts-more : (d : List FrameType) (rs : List LineReport) (r : LineReport) →
    verdicts d (rs ++ r ∷ []) ≡ verdicts d rs ++ option_to_list (decided d rs r)
verdicts-more d rs r = step (is_idle_kind r.report.kind) refl
  where
    step : (b : Bool) → is_idle_kind r.report.kind ≡ b → verdicts d (rs ++ r ∷ [])
        ≡ verdicts d rs ++ option_to_list (decided d rs r)
    step true kind_is =
        ap (λ xs. verdicts-of d (neighbours xs)) (talk-idle rs r kind_is)
        ∙ rw (decided-idle d rs r kind_is) (sym (append-nil (verdicts d rs)))
    step false kind_is =
        ap (λ xs. verdicts-of d (neighbours xs)) (talk-one rs r kind_is)
        ∙ (ap (verdicts-of d) (neighbours-push (talk rs) r)
        ∙ (filter_map-append _ (neighbours (talk rs)) (paired (last_or None (talk rs)) r)
        ∙ rw kind_is (ap (λ xs. verdicts d rs ++ xs) (judged-pair d (last_or None (talk rs)) r))))
