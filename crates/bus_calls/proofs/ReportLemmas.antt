-- The report of a check, in parts.
use Rattle.std.proofs.Common.{◌≡◌, Bool, ℕ, zero, suc, ◌+◌, ◌-◌, ◌≤◌, List, [], ◌∷◌, ◌++◌, take, drop, length, ◌<◌, inl}
use Rattle.std.proofs.Common.{inr, slice_get, Option, Some, refl, sym, ap, ◌∙◌, subst, arith, append_assoc, append-nil}
use Rattle.std.specs.List.{flat_map}
use Rattle.std.proofs.lemmas.Grind.{flat_map-append}
use Rattle.std.proofs.lemmas.List.{take_more, take-append-drop}
use Rattle.std.proofs.lemmas.Option.{slice_get_within, slice_get_cases, get_or_from_slice_get}
use Rattle.arrayvec.specs.ArrayVec.{ArrayVec}
use Rattle.bus_line.specs.Due.{places}
use Rattle.bus_pairing.specs.History.{KeptFrame, history, tally}
use Rattle.bus_pairing.specs.declared.counts.Counts.{Counts}
use Rattle.bus_text.specs.CheckText.{tally_text, tallies_text, kept_text, history_text}
use Rattle.bus_text.specs.Put.{TextStopsAt}
use Rattle.bus_text.specs.Pages.{Pages}
use Rattle.bus_text.proofs.PagesLemmas.{cuts-more}
use Rattle.bus_calls.specs.Internal.Kinds.{KindView}
use Rattle.bus_calls.specs.Internal.Watching.{reports_by}

-- the counts, and the frames that are kept, where an analyser stands after these symbols
module _ {A R X B : Type 0} (kind : KindView A R X B) (a : A) (b : List X) where
  abbrev pub tallied : ℕ → Counts
  tallied = tally (kind.watch.dictionary a) (reports_by kind.watch a b)

  abbrev pub kept : List KeptFrame
  kept = history (kind.watch.depth a) (reports_by kind.watch a b)

pub tallies-none : (t : ℕ → Counts) → tallies_text t 0 ≡ []
unfolding tallies_text
tallies-none t = refl

pub tallies-more : (t : ℕ → Counts) (n : ℕ) → tallies_text t (n + 1) ≡ tallies_text t n ++ tally_text n (t n)
unfolding tallies_text
tallies-more t n =
    let f = λ (station : ℕ). tally_text station (t station) in
    let one : n + 1 ≡ suc n = omega arith in
    ap (λ m. flat_map f (places m)) one ∙ flat_map-append f (places n) (n ∷ [])
    ∙ ap (λ l. flat_map f (places n) ++ l) (append-nil (f n))

-- the lines of the first stations are a front of all
tallies-front : (t : ℕ → Counts) (k d : ℕ) → (rest : List ℕ) × (tallies_text t (k + d) ≡ tallies_text t k ++ rest)
tallies-front t k zero =
    ([], ap (tallies_text t) (let none : k + 0 ≡ k = omega arith in none) ∙ sym (append-nil (tallies_text t k)))
tallies-front t k (suc d) =
    let before = tallies-front t k d in
    let last = tally_text (k + d) (t (k + d)) in
    let one : k + suc d ≡ (k + d) + 1 = omega arith in (
      before.0 ++ last,
      ap (tallies_text t) one ∙ tallies-more t (k + d) ∙ ap (λ l. l ++ last) before.1
          ∙ append_assoc (tallies_text t k) before.0 last,
    )

-- the lines of one station more
tallies-next : (text : List ℕ) (t : ℕ → Counts) (k : ℕ) (c : Counts) → c ≡ t k →
    (text ++ tallies_text t k) ++ tally_text k c ≡ text ++ tallies_text t (k + 1)
tallies-next text t k c same =
    append_assoc text (tallies_text t k) (tally_text k c)
    ∙ ap (λ l. text ++ l) (ap (λ (c : Counts). tallies_text t k ++ tally_text k c) same ∙ sym (tallies-more t k))

pub pages-tally : {start now : Option (List ℕ)} {page : ArrayVec ℕ} {written : ℕ} (text : List ℕ) (t : ℕ → Counts)
    (k : ℕ) {c : Counts} → c ≡ t k
    → Pages start now page written ((text ++ tallies_text t k) ++ tally_text k c) →
    Pages start now page written (text ++ tallies_text t (k + 1))
pages-tally {start} {now} {page} {written} text t k {c} same pages =
    subst (Pages start now page written) (tallies-next text t k c same) pages

-- what is cut short at a station is a front of all lines
pub cuts-tally : {start now : Option (List ℕ)} (text : List ℕ) (t : ℕ → Counts) (k n : ℕ) {c : Counts} {sent : ℕ} →
    c ≡ t k → k + 1 ≤ n
    → TextStopsAt start now ((text ++ tallies_text t k) ++ tally_text k c) sent →
    TextStopsAt start now (text ++ tallies_text t n) sent
cuts-tally {start} {now} text t k n {c} {sent} same le cut =
    let front = tallies-front t (k + 1) (n - (k + 1)) in
    let all : (k + 1) + (n - (k + 1)) ≡ n = omega (arith, le) in
    let whole : (text ++ tallies_text t (k + 1)) ++ front.0 ≡ text ++ tallies_text t n =
    append_assoc text (tallies_text t (k + 1)) front.0 ∙ ap (λ l. text ++ l) (sym front.1 ∙ ap (tallies_text t) all) in
    subst (λ (l : List ℕ). TextStopsAt start now l sent) whole
    (cuts-more start now (text ++ tallies_text t (k + 1)) front.0 sent
    (subst (λ (l : List ℕ). TextStopsAt start now l sent) (tallies-next text t k c same) cut))

-- the line of one frame more
history-next : (two : Bool) (text : List ℕ) (h : List KeptFrame) (i : ℕ) (f : KeptFrame) → slice_get h i ≡ Some f
    → (text ++ history_text two (take i h)) ++ kept_text two f ≡ text ++ history_text two (take (i + 1) h)
history-next two text h i f here =
    let front : take (i + 1) h ≡ take i h ++ f ∷ [] =
    take_more h i f (slice_get_within h i f here)
    ∙ ap (λ (x : KeptFrame). take i h ++ x ∷ []) (get_or_from_slice_get h i f f here) in
    let more : history_text two (take (i + 1) h) ≡ history_text two (take i h) ++ kept_text two f =
    ap (history_text two) front ∙ flat_map-append (kept_text two) (take i h) (f ∷ [])
    ∙ ap (λ l. history_text two (take i h) ++ l) (append-nil (kept_text two f)) in
    append_assoc text (history_text two (take i h)) (kept_text two f) ∙ ap (λ l. text ++ l) (sym more)

pub pages-kept : (two : Bool) {start now : Option (List ℕ)} {page : ArrayVec ℕ} {written : ℕ} (text : List ℕ)
    (h : List KeptFrame) (i : ℕ) {f : KeptFrame} → slice_get h i ≡ Some f
    → Pages start now page written ((text ++ history_text two (take i h)) ++ kept_text two f) →
    Pages start now page written (text ++ history_text two (take (i + 1) h))
pages-kept two {start} {now} {page} {written} text h i {f} here pages =
    subst (Pages start now page written) (history-next two text h i f here) pages

pub cuts-kept : (two : Bool) {start now : Option (List ℕ)} (text : List ℕ) (h : List KeptFrame) (i : ℕ) {f : KeptFrame}
    {sent : ℕ} → slice_get h i ≡ Some f
    → TextStopsAt start now ((text ++ history_text two (take i h)) ++ kept_text two f) sent →
    TextStopsAt start now (text ++ history_text two h) sent
cuts-kept two {start} {now} text h i {f} {sent} here cut =
    let rest = history_text two (drop (i + 1) h) in
    let whole : (text ++ history_text two (take (i + 1) h)) ++ rest ≡ text ++ history_text two h =
    append_assoc text (history_text two (take (i + 1) h)) rest
    ∙ ap (λ l. text ++ l) (sym (flat_map-append (kept_text two) (take (i + 1) h) (drop (i + 1) h))
    ∙ ap (history_text two) (take-append-drop (i + 1) h)) in
    subst (λ (l : List ℕ). TextStopsAt start now l sent) whole
    (cuts-more start now (text ++ history_text two (take (i + 1) h)) rest sent
    (subst (λ (l : List ℕ). TextStopsAt start now l sent) (history-next two text h i f here) cut))

-- the three parts of a report, after a text
pub report-parts : (text s t h : List ℕ) → ((text ++ s) ++ t) ++ h ≡ text ++ ((s ++ t) ++ h)
report-parts text s t h = ap (λ l. l ++ h) (append_assoc text s t) ∙ append_assoc text (s ++ t) h

-- there is a frame at each number below their count
pub frame-at : (h : List KeptFrame) (i : ℕ) → i < length h → (k : KeptFrame) × (slice_get h i ≡ Some k)
frame-at h i lt = elim (slice_get_cases h i).1 [
  | inl here ↦ (here.0, here.2)
  | inr past ↦ absurd (let never : ⊥ = omega (arith, lt, past.0) in never)
]
