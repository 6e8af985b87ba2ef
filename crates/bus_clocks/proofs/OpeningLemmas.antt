-- Where the piece of a report, or the piece that has begun, opened.
use Rattle.std.proofs.Common.{◌≡◌, ℕ, ◌+◌, ◌-◌, ◌%◌, ◌<◌, ◌≤◌, ◌^◌, Bool, List, [], ◌∷◌, ◌++◌, length}
use Rattle.std.proofs.Common.{Option, Some, None, refl, sym, ap, ◌∙◌, subst, arith}
use Rattle.std.proofs.Common.{length-append, ◌⊎◌, inl, inr}
use Rattle.std.specs.Option.{option_map}
use Rattle.std.proofs.lemmas.Bool.{cases_lt}
use Rattle.bus_fcs.specs.Check.{CheckView}
use Rattle.bus_line.specs.Report.{Report, moved}
use Rattle.bus_line.specs.Due.{due_at, begun}
use Rattle.bus_line.specs.Laws.{DueIsIt}
use Rattle.bus_line.specs.Shown.{kind_with, reported}
use Rattle.bus_line.specs.declared.event.EventKind.{EventKind}
use Rattle.bus_line.specs.declared.event.EventKind.TheVariants as event
use Rattle.bus_line.specs.After.{After, AdvancesWith, due_of}
use Rattle.bus_line.specs.LineState.{LineState}
use Rattle.bus_line.specs.declared.event.Event.{Event}
use Rattle.bus_watch.specs.Decodes.{Stands}
use Rattle.bus_tap.specs.Arrival.{decides}
use Rattle.bus_clocks.specs.Internal.Stretch.{Opens}
use Rattle.bus_tap.proofs.ArrivedLemmas.{IsNear, report-near}
use Rattle.bus_tap.proofs.LocatedLemmas.{is-due, kind-idle, same-number, some-is}
use Rattle.bus_tap.proofs.PlacesLemmas.{WasOpen, begun-before, begun-within}

idle-or : (k : EventKind) → (k ≡ event.Idle) ⊎ (k ≡ event.Idle → ⊥)
idle-or event.Frame = inr (λ is. absurd (cc))
idle-or (event.Damaged cause) = inr (λ is. absurd (cc))
idle-or event.Overlong = inr (λ is. absurd (cc))
idle-or event.Abort = inr (λ is. absurd (cc))
idle-or event.Idle = inl refl

same-event : (x y : Event) → Some x ≡ Some y → x ≡ y
same-event x y is = cc

pub opening-begun : {C : Type 0} (view : CheckView C) (d : LineState C) (longest : ℕ) (b : List Bool) (bit : Bool)
    (os : List ℕ) (e : Option Event) (o : Option ℕ) (k : ℕ) → DueIsIt → d.origin ≡ 0 → After view d (b ++ bit ∷ []) →
    Opens view d e o →
    option_map (reported os) e ≡ option_map (moved 0) (due_at longest (b ++ bit ∷ []) (length b)) →
    begun (b ++ bit ∷ []) ≡ Some k → o ≡ Some k
opening-begun view d longest b bit os None o k it begins after opens answer is =
    opens.begun (λ e same. absurd (cc)) (b ++ bit ∷ []) after
    ∙ (ap (option_map (λ j. d.origin + j)) is ∙ ap Some (omega (arith, begins)))
opening-begun view d longest b bit os (Some e) o k it begins after opens answer is = elim (idle-or e.kind) [
  | inl idle ↦
      opens.begun (λ f same. ap (λ (x : Event). x.kind) (sym (same-event e f same)) ∙ idle) (b ++ bit ∷ []) after
      ∙ (ap (option_map (λ j. d.origin + j)) is ∙ ap Some (omega (arith, begins)))
  | inr other ↦
      (let due = is-due longest b bit os e answer in
      elim due.decided [
        | inl quiet ↦ absurd (other (kind-idle os e.kind (due.kind ∙ quiet.0)))
        | inr was ↦
            (let within = begun-within (b ++ bit ∷ []) k is in
            let behind : (k ≡ length b → ⊥) = λ last. was.none (is ∙ ap Some last) in
            let inside : k < length b = elim (cases_lt k (length b)) [
              | inl near ↦ near
              | inr far ↦ absurd (behind (omega (arith, far, within, length-append b (bit ∷ []))))
            ] in
            let first : k ≡ due.report.first =
            same-number k due.report.first (sym (begun-before b (bit ∷ []) k is inside) ∙ was.opened) in
            opens.piece e refl other ∙ ap Some (due.first ∙ sym first))
      ])
]

pub opening-decided : {C : Type 0} (view : CheckView C) (d : LineState C) (longest : ℕ) (b : List Bool) (bit : Bool)
    (os : List ℕ) (e : Option Event) (o : Option ℕ) (r : Report) → Opens view d e o →
    option_map (reported os) e ≡ option_map (moved 0) (due_at longest (b ++ bit ∷ []) (length b)) →
    due_at longest (b ++ bit ∷ []) (length b) ≡ Some r → WasOpen b bit r → o ≡ Some r.first
opening-decided view d longest b bit os None o r opens answer due was =
    absurd (let clash = answer ∙ ap (option_map (moved 0)) due in cc)
opening-decided view d longest b bit os (Some e) o r opens answer due was =
    let same : reported os e ≡ moved 0 r = same-report (reported os e) (moved 0 r)
    (answer ∙ ap (option_map (moved 0)) due) in
    let other : (e.kind ≡ event.Idle → ⊥) = λ idle. was.kind
    (sym (ap (λ (s : Report). s.kind) same) ∙ ap (kind_with os) idle) in
    opens.piece e refl other ∙ ap Some (ap (λ (s : Report). s.first) same ∙ omega arith)
  where
    same-report : (x y : Report) → Some x ≡ Some y → x ≡ y
    same-report x y is = cc

-- it is the number of one of the bits
opening-begun_in : {C : Type 0} (d : LineState C) (c : List Bool) (o : Option ℕ) (k : ℕ) →
    o ≡ option_map (λ j. d.origin + j) (begun c) → o ≡ Some k → k < d.origin + length c
opening-begun_in d c o k found is =
    let first = some-is (λ j. d.origin + j) (begun c) k (sym is ∙ found) in
    omega (arith, begun-within c first.0 first.1, first.2)

opening-in : {C : Type 0} (view : CheckView C) (d : LineState C) (longest : ℕ) (c : List Bool) (n : ℕ)
    (os : List ℕ) (e : Option Event) (o : Option ℕ) (k : ℕ) → DueIsIt → After view d c → n < length c →
    Opens view d e o → option_map (reported os) e ≡ option_map (moved d.origin) (due_at longest c n) → o ≡ Some k →
    k < d.origin + length c
opening-in view d longest c n os None o k it after inside opens answer is =
    opening-begun_in d c o k (opens.begun (λ f same. absurd (cc)) c after) is
opening-in view d longest c n os (Some e) o k it after inside opens answer is = elim (idle-or e.kind) [
  | inl idle ↦
      opening-begun_in d c o k
      (opens.begun (λ f same. ap (λ (x : Event). x.kind) (sym (same-event e f same)) ∙ idle) c after) is
  | inr other ↦
      (let found = some-is (moved d.origin) (due_at longest c n) (reported os e) answer in
      let report = (it longest c n found.0).1 found.1 in
      let near : IsNear n found.0 = subst (λ j. IsNear j found.0) report.1 (report-near longest c found.0 report.0) in
      omega (
        arith,
        near.some,
        near.within,
        inside,
        same-number k e.span.first (sym is ∙ opens.piece e refl other),
        ap (λ (r : Report). r.first) found.2,
      ))
]

pub opening-scanned : {C : Type 0} {view : CheckView C} {old new : LineState C} {e : Option Event} {o : Option ℕ}
    (bits : List Bool) → DueIsIt → 1 ≤ length bits → AdvancesWith view old bits e new →
    ((b : List Bool) → After view old b → option_map (reported new.octets) e
    ≡ due_of old (b ++ bits) (length b + length bits - 1)) → Opens view new e o → Stands view old → (k : ℕ) →
    o ≡ Some k → k < old.place + length bits
opening-scanned {view = view} {old = old} {new = new} {e = e} {o = o} bits it some advances answer opens stands k is =
    let b = stands.bits in
    let led = advances.decides.leads in
    let size = length-append b bits in
    let near = opening-in view new old.longest (b ++ bits) (length b + length bits - 1) new.octets e o k it
    (led.after b stands.after) (omega (arith, size, some)) opens
    (rw (led.origin) (answer b stands.after)) is in
    omega (arith, near, size, led.origin, stands.after.has_taken.place)
