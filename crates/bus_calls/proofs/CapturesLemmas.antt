-- The symbols of a capture that have a place, and how the following of them stops.
use Rattle.std.proofs.Common.{◌≡◌, ℕ, ◌+◌, ◌-◌, ◌<◌, ◌≤◌, ◌^◌, if◌then◌else◌, Bool, true, false, List, ◌++◌, length}
use Rattle.std.proofs.Common.{take, drop, Option, Some, refl, sym, ap, ◌∙◌, subst, arith, inl, inr, append_assoc}
use Rattle.std.proofs.lemmas.Bool.{cases_lt}
use Rattle.std.proofs.lemmas.List.{take-append-drop}
use Rattle.bus_formats.specs.Capture.{CaptureOf, CaptureFault, place_limit, capped, GrowsTo}
use Rattle.bus_calls.specs.Internal.Kinds.{KindView, FormLaws, KindLaws}
use Rattle.bus_calls.specs.Internal.Watching.{IsSound, IsSame, WatchAfter, WatchStopsWith, within}
use Rattle.bus_calls.specs.Internal.Sessions.{Faulty, CaptureStopsWith, SourceStopsWith, capture_so_far}
use Rattle.bus_calls.specs.Captures.{Form, IsSameFault, capture, fed_by}
use Rattle.bus_calls.specs.declared.run.CaptureRun.{CaptureRun}
use Rattle.bus_text.specs.declared.fault.ToolFault.{ToolFault}
use Rattle.bus_text.specs.declared.fault.ToolFault.TheVariants as fault
use Rattle.bus_calls.proofs.WatchingLemmas.{within-all}
use Rattle.bus_formats.proofs.CaptureLemmas.{capped_all}
use Rattle.bus_bits.proofs.CaseLemmas.{lt_true}

-- of more symbols than there are places
pub placed-over : {X : Type 0} (origin : ℕ) (c : CaptureOf X) → 2 ^ 60 - origin < length c.bits →
    capped origin c ≡ record { bits = within origin c.bits; fault = Some place_limit }
placed-over origin c over =
    ap (λ b. if b then record { bits = take (2 ^ 60 - origin) c.bits; fault = Some place_limit } else c)
    (lt_true (2 ^ 60 - origin) (length c.bits) over)

pub placed-bits : {X : Type 0} (origin : ℕ) (c : CaptureOf X) → origin ≤ 2 ^ 60 →
    (capped origin c).bits ≡ within origin c.bits
placed-bits {X} origin c low = elim (cases_lt (2 ^ 60 - origin) (length c.bits)) [
  | inl over ↦ ap (λ (d : CaptureOf X). d.bits) (placed-over origin c over)
  | inr fits ↦ ap (λ (d : CaptureOf X). d.bits) (capped_all origin c fits)
      ∙ sym (within-all origin c.bits (omega (arith, fits, low)))
]

-- what an analyser takes grows
pub fed-grows : {R X : Type 0} (f : Form R X) → FormLaws f → (rest : ℕ) (c d : CaptureOf R) → GrowsTo c d →
    GrowsTo (fed_by f rest c) (fed_by f rest d)
fed-grows f law rest c d grows =
    let on = law.fed rest c.bits grows.0 in
    (on.taken, ap (f.fed rest) grows.1 ∙ on.is, λ g found. ap (fed_by f rest) (grows.2 g found))

-- so does what octets give
pub grows-on : {R X : Type 0} (f : Form R X) → FormLaws f → (text : Bool) (rest origin : ℕ) (xs ys : List ℕ) →
    GrowsTo (capture f text rest origin xs) (capture f text rest origin (xs ++ ys))
grows-on f law true rest origin xs ys = law.places origin _ _ (fed-grows f law rest _ _ (law.text xs ys))
grows-on f law false rest origin xs ys = law.places origin _ _ (fed-grows f law rest _ _ (law.packed xs ys))

module _ {A R X B : Type 0} (t : KindView A R X B) where
  -- the symbols that were followed have a place
  pub followed-fits : KindLaws t → (start now : Option (List ℕ)) (w : CaptureRun A) (b : List X)
      → IsSound t w → WatchAfter t start now w b → t.watch.origin w.analyser + length b ≤ 2 ^ 60
  followed-fits law start now w b sound followed =
      omega (arith, law.placed w.analyser b followed.is_after, sound.places)

  -- the following of a capture's symbols stopped
  pub halts-stops : (start now : Option (List ℕ)) (w : CaptureRun A) (c : CaptureOf X) (f : ToolFault)
      → t.watch.origin w.analyser ≤ 2 ^ 60 → WatchStopsWith t start now w c.bits f →
      CaptureStopsWith t start now w (capped (t.watch.origin w.analyser) c) f
  halts-stops start now w c fault.PlaceLimit low stopped =
      let is = placed-over (t.watch.origin w.analyser) c stopped.0 in
      subst (λ (d : CaptureOf X). Faulty t start now w d fault.PlaceLimit) (sym is)
      (record { cause = place_limit; found = refl; answered = refl; bits = stopped.1 })
  halts-stops start now w c (fault.Write sent) low stopped = record {
    front = stopped.front;
    more = stopped.more;
    all = placed-bits (t.watch.origin w.analyser) c low ∙ stopped.all;
    cut = stopped.cut;
    short = stopped.short;
  }
  halts-stops start now w c _ low stopped = absurd stopped

  -- a capture with a fault, all of whose symbols were followed
  pub fault-in : KindLaws t → (start now : Option (List ℕ)) (w : CaptureRun A) (c : CaptureOf X) (b : List X)
      (cause : CaptureFault) (f : ToolFault)
      → IsSound t w → IsSameFault f cause → c.bits ≡ b → c.fault ≡ Some cause → WatchAfter t start now w b
      → Faulty t start now w (capped (t.watch.origin w.analyser) c) f
  fault-in law start now w c b cause f sound answered is found followed =
      let origin = t.watch.origin w.analyser in
      let fits : origin + length b ≤ 2 ^ 60 = followed-fits law start now w b sound followed in
      let short : length c.bits ≤ 2 ^ 60 - origin = omega (arith, fits, ap length is) in
      subst (λ (x : CaptureOf X). Faulty t start now w x f) (sym (capped_all origin c short))
      (record {
        cause = cause;
        found = found;
        answered = answered;
        bits = subst (WatchAfter t start now w) (sym is) followed;
      })

  -- what stopped, stops with more octets
  pub stops-more : (start now : Option (List ℕ)) (w : CaptureRun A) (c d : CaptureOf X) (f : ToolFault)
      → GrowsTo c d → CaptureStopsWith t start now w c f → CaptureStopsWith t start now w d f
  stops-more start now w c d (fault.Write sent) grows stopped = record {
    front = stopped.front;
    more = stopped.more ++ grows.0;
    all = grows.1 ∙ ap (λ (x : List X). x ++ grows.0) stopped.all ∙ append_assoc stopped.front stopped.more grows.0;
    cut = stopped.cut;
    short = stopped.short;
  }
  stops-more start now w c d f grows stopped =
      subst (λ (x : CaptureOf X). CaptureStopsWith t start now w x f)
      (sym (grows.2 stopped.cause stopped.found)) stopped

-- what stopped the taking of the first of some octets stops that of all
pub first-stop : {A R X B : Type 0} {t : KindView A R X B} → KindLaws t → (text : Bool) (start now : Option (List ℕ))
    (w : CaptureRun A) {zs : List ℕ} (xs os : List ℕ) (k : ℕ) (f : ToolFault) → zs ≡ xs ++ take k os →
    SourceStopsWith t text start now w zs f → SourceStopsWith t text start now w (xs ++ os) f
first-stop {t = t} law text start now w xs os k f is stopped =
    subst (λ (ys : List ℕ). SourceStopsWith t text start now w ys f)
    (append_assoc xs (take k os) (drop k os) ∙ ap (λ (ys : List ℕ). xs ++ ys) (take-append-drop k os))
    (stops-more t start now w _ (capture_so_far t text w ((xs ++ take k os) ++ drop k os)) f
    (grows-on t.form law.form text (t.rest w.analyser) (t.watch.origin w.analyser) (xs ++ take k os) (drop k os))
    (subst (λ (ys : List ℕ). SourceStopsWith t text start now w ys f) is stopped))

-- the first place is low, and stays so
pub low-origin : {A R X B : Type 0} {t : KindView A R X B} → KindLaws t → {start now : Option (List ℕ)}
    {w v : CaptureRun A} {b : List X} → t.watch.place w.analyser ≤ 2 ^ 60 → IsSame t w v → WatchAfter t start now w b →
    t.watch.origin v.analyser ≤ 2 ^ 60
low-origin law {w = w} {b = b} places same followed =
    omega (arith, same.origin, law.placed w.analyser b followed.is_after, places)
