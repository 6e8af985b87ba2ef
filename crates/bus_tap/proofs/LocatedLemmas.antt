-- What a bit of the second line decides, in places.
use Rattle.std.proofs.Common.{◌≡◌, ℕ, ◌+◌, ◌-◌, ◌%◌, ◌^◌, ◌≤◌, Bool, List, [], ◌∷◌, ◌++◌, length, map, Option, Some}
use Rattle.std.proofs.Common.{None, refl, sym, ap, ◌∙◌, subst, arith, append-nil, length-append, ◌⊎◌, inl, inr}
use Rattle.std.specs.List.{slice_get}
use Rattle.std.specs.Option.{option_map, option_to_list}
use Rattle.bus_line.specs.Due.{due_at}
use Rattle.bus_line.specs.Report.{Report, Kind, moved}
use Rattle.bus_line.specs.Shown.{kind_with, reported}
use Rattle.bus_line.specs.declared.event.Event.{Event}
use Rattle.bus_line.specs.declared.event.EventKind.{EventKind}
use Rattle.bus_line.specs.declared.event.EventKind.TheVariants as event
use Rattle.bus_line.proofs.ReportLemmas.{due-it}
use Rattle.bus_line.specs.LineReport.{LineReport, line_report}
use Rattle.bus_line.specs.declared.line.Line.TheVariants.{First, Second}
use Rattle.bus_tap.specs.Arrival.{Arrival, own, place_of, at_places, decides}
use Rattle.bus_tap.specs.Places.{KeepsPlaces, LocatesLast, IsLocated, AreLocated}
use Rattle.bus_tap.specs.declared.places.BitPlaces.{BitPlaces}
use Rattle.bus_tap.proofs.ArrivalLemmas.{own-append, before-within}
use Rattle.bus_tap.proofs.ArrivedLemmas.{IsNear, report-near, decides-second}
use Rattle.bus_tap.proofs.PlacesLemmas.{was-open, WasOpen}

pub none-is : {X Y : Type 0} (f : X → Y) (o : Option X) → None ≡ option_map f o → o ≡ None
none-is f None is = refl
none-is f (Some x) is = absurd (cc)

pub some-is : {X Y : Type 0} (f : X → Y) (o : Option X) (y : Y) → Some y ≡ option_map f o →
    (x : X) × (o ≡ Some x) × (y ≡ f x)
some-is f None y is = absurd (cc)
some-is f (Some x) y is = (x, refl, cc)

-- what is due at the bit, and where
pub record IsDue (longest : ℕ) (b : List Bool) (bit : Bool) (os : List ℕ) (e : Event) : Type 0 where
  pub report : Report
  pub due : due_at longest (b ++ bit ∷ []) (length b) ≡ Some report
  pub kind : kind_with os e.kind ≡ report.kind
  pub first : e.span.first ≡ report.first
  pub past : e.span.past ≡ report.past
  pub near : IsNear (length b) report
  pub decided : ((report.kind ≡ Kind.Idle) × (length b ≤ report.first + 14)) ⊎ WasOpen b bit report

pub is-due : (longest : ℕ) (b : List Bool) (bit : Bool) (os : List ℕ) (e : Event) →
    Some (reported os e) ≡ option_map (moved 0) (due_at longest (b ++ bit ∷ []) (length b)) →
    IsDue longest b bit os e
is-due longest b bit os e answer =
    let found = some-is (moved 0) _ (reported os e) answer in
    let report = (due-it longest (b ++ bit ∷ []) (length b) found.0).1 found.1 in
    record {
      report = found.0;
      due = found.1;
      kind = ap (λ (s : Report). s.kind) found.2;
      first = ap (λ (s : Report). s.first) found.2 ∙ omega arith;
      past = ap (λ (s : Report). s.past) found.2 ∙ omega arith;
      near = subst (λ n. IsNear n found.0) report.1 (report-near longest (b ++ bit ∷ []) found.0 report.0);
      decided = was-open longest b bit found.0 report.0 report.1;
    }

pub kind-idle : (os : List ℕ) (k : EventKind) → kind_with os k ≡ Kind.Idle → k ≡ event.Idle
kind-idle os event.Frame is = absurd (cc)
kind-idle os (event.Damaged cause) is = absurd (cc)
kind-idle os event.Overlong is = absurd (cc)
kind-idle os event.Abort is = absurd (cc)
kind-idle os event.Idle is = refl

pub same-number : (x y : ℕ) → Some x ≡ Some y → x ≡ y
same-number x y is = cc

-- places and event after a bit of the second line
pub record LastBit (origin longest : ℕ) (xs : List Arrival) (bit : Bool) (os : List ℕ) (e : Option Event)
    (places : BitPlaces) : Type 0 where
  pub kept : KeepsPlaces origin places (xs ++ (Second, bit) ∷ [])
  pub opened : (r : Report) → due_at longest (own Second xs ++ bit ∷ []) (length (own Second xs)) ≡ Some r
      → WasOpen (own Second xs) bit r → places.opened ≡ origin + place_of (xs ++ (Second, bit) ∷ []) r.first
  pub answer : option_map (reported os) e
      ≡ option_map (moved 0) (due_at longest (own Second xs ++ bit ∷ []) (length (own Second xs)))

pub count-at : (xs : List Arrival) (bit : Bool) →
    length (own Second (xs ++ (Second, bit) ∷ [])) ≡ length (own Second xs) + 1
count-at xs bit = omega (
  arith,
  ap length (own-append Second xs ((Second, bit) ∷ [])),
  length-append (own Second xs) (bit ∷ []),
)

module _ {origin longest : ℕ} {xs : List Arrival} {bit : Bool} {os : List ℕ} {e : Event} {places : BitPlaces}
    (last : LastBit origin longest xs bit os (Some e) places) where
  pub due-now : IsDue longest (own Second xs) bit os e
  due-now = is-due longest (own Second xs) bit os e last.answer

  -- the place of its last bit
  last-place : slice_get places.recent ((e.span.past - 1) % 16)
      ≡ Some (origin + place_of (xs ++ (Second, bit) ∷ []) (due-now.report.past - 1))
  last-place =
      let d = due-now in
      let count = count-at xs bit in
      ap (λ k. slice_get places.recent ((k - 1) % 16)) d.past
      ∙ last.kept.recent (d.report.past - 1) (omega (arith, d.near.within, d.near.some, count))
      (omega (arith, d.near.near, d.near.some, count))

  -- that of its first
  first-place : (l : Event) → IsLocated places e l →
      l.span.first ≡ origin + place_of (xs ++ (Second, bit) ∷ []) due-now.report.first
  first-place l located =
      let d = due-now in
      let count = count-at xs bit in
      elim d.decided [
        | inl is ↦
            located.idle (origin + place_of (xs ++ (Second, bit) ∷ []) d.report.first)
            (kind-idle os e.kind (d.kind ∙ is.0))
            (ap (λ k. slice_get places.recent (k % 16)) d.first
            ∙ last.kept.recent d.report.first
            (omega (arith, d.near.some, d.near.within, count)) (omega (arith, is.1, count)))
        | inr was ↦
            located.piece (λ idle. was.kind (sym d.kind ∙ ap (kind_with os) idle)) ∙ last.opened d.report d.due was
      ]

  -- no place is greater than that of the first line's last bit
  place-fits : origin + length (own First xs) ≤ 2 ^ 60 → (k : ℕ) →
      origin + place_of (xs ++ (Second, bit) ∷ []) k ≤ 2 ^ 60
  place-fits bound k =
      let more : List Arrival = (Second, bit) ∷ [] in
      omega (
        arith,
        before-within k (xs ++ more),
        ap length (own-append First xs more ∙ append-nil (own First xs)),
        bound,
      )

  -- the report in places
  located-is : origin + length (own First xs) ≤ 2 ^ 60 → (l : Event) → IsLocated places e l → reported os l
      ≡ moved origin (at_places (xs ++ (Second, bit) ∷ []) due-now.report)
  located-is bound l located =
      let d = due-now in
      let kind : kind_with os l.kind ≡ d.report.kind = ap (kind_with os) located.kind ∙ d.kind in
      let past : l.span.past
      ≡ origin + (place_of (xs ++ (Second, bit) ∷ []) (d.report.past - 1) + 1) =
      located.past _ last-place (place-fits bound (d.report.past - 1)) ∙ omega arith in
      let first = first-place l located in
      rw (kind, past, first) refl

-- reports of the second line
abbrev reports_on : Option Report → List LineReport
reports_on o = map (line_report (Some Second)) (option_to_list o)

-- what the bit decides, in places
pub decides-located : {origin longest : ℕ} {xs : List Arrival} {bit : Bool} {os : List ℕ} {places : BitPlaces}
    (e l : Option Event) → origin + length (own First xs) ≤ 2 ^ 60 → LastBit origin longest xs bit os e places →
    AreLocated places e l → decides origin longest xs (Second, bit)
    ≡ map (line_report (Some Second)) (option_to_list (option_map (reported os) l))
decides-located {origin = origin} {longest = longest} {xs = xs} {bit = bit} {os = os} None l bound last located =
    decides-second origin longest xs bit
    ∙ ap (λ o. reports_on (option_map (λ r. moved origin (at_places (xs ++ (Second, bit) ∷ []) r)) o))
    (none-is (moved 0) _ last.answer)
    ∙ ap (λ o. reports_on (option_map (reported os) o)) (sym located)
decides-located {origin = origin} {longest = longest} {xs = xs} {bit = bit} {os = os} (Some e) l bound last located =
    decides-second origin longest xs bit
    ∙ ap (λ o. reports_on (option_map (λ r. moved origin (at_places (xs ++ (Second, bit) ∷ []) r)) o))
    (due-now last).due
    ∙ (ap (λ s. reports_on (Some s)) (sym (located-is last bound located.0 located.2))
    ∙ ap (λ o. reports_on (option_map (reported os) o)) (sym located.1))

moved-nowhere : (o : Option Report) → o ≡ option_map (moved 0) o
moved-nowhere None = refl
moved-nowhere (Some r) =
    let first : 0 + r.first ≡ r.first = omega arith in
    let past : 0 + r.past ≡ r.past = omega arith in
    rw (first, past) refl

-- an event in places is what the last bit decides
pub located-last : (p : BitPlaces) (e l : Option Event) → AreLocated p e l → LocatesLast p e l
located-last p None l located origin longest xs bit os kept decided bound answer =
    ap (option_map (reported os)) located
    ∙ ap (option_map (λ r. moved origin (at_places (xs ++ (Second, bit) ∷ []) r))) answer
located-last p (Some e) l located origin longest xs bit os kept decided bound answer =
    let last : LastBit origin longest xs bit os (Some e) p = record {
      kept = kept;
      opened = λ r due was. decided longest r due was.kind;
      answer = answer ∙ moved-nowhere (due_at longest (own Second xs ++ bit ∷ []) (length (own Second xs)));
    } in
    ap (option_map (reported os)) located.1
    ∙ (ap Some (located-is last bound located.0 located.2)
    ∙ ap (option_map (λ r. moved origin (at_places (xs ++ (Second, bit) ∷ []) r))) (sym (due-now last).due))
