-- Decoder and places after arrivals of which the last is a bit of the second line.
use Rattle.std.proofs.Common.{◌≡◌, ℕ, ◌+◌, ◌-◌, ◌%◌, ◌<◌, ◌≤◌, ◌^◌, Bool, List, [], ◌∷◌, ◌++◌, length}
use Rattle.std.proofs.Common.{Option, Some, refl, sym, ap, ◌∙◌, subst, arith, append-nil, append_assoc, take}
use Rattle.std.proofs.Common.{drop, length-append, ◌⊎◌, inl, inr}
use Rattle.std.specs.List.{slice_get}
use Rattle.std.specs.Option.{option_map}
use Rattle.std.proofs.lemmas.Bool.{cases_lt}
use Rattle.bus_fcs.specs.Check.{CheckView}
use Rattle.bus_line.specs.Report.{moved}
use Rattle.bus_line.specs.Due.{due_at, begun}
use Rattle.bus_line.specs.Laws.{DueIsIt}
use Rattle.bus_line.specs.Laws.{FrameIsSpelled}
use Rattle.bus_line.specs.Shown.{reported}
use Rattle.bus_line.specs.declared.consumed.Consumed.{Consumed}
use Rattle.bus_line.specs.declared.event.EventKind.TheVariants as event
use Rattle.bus_line.specs.After.{After, AdvancesWith, due_of}
use Rattle.bus_line.specs.LineState.{LineState}
use Rattle.bus_line.specs.declared.event.Event.{Event}
use Rattle.bus_pairing.specs.Conversation.{IsWhole}
use Rattle.bus_line.specs.declared.line.Line.TheVariants.{First, Second}
use Rattle.bus_watch.proofs.AnalyserViewLemmas.{whole}
use Rattle.bus_tap.specs.Arrival.{Arrival, own, firsts_before, place_of, decides}
use Rattle.bus_tap.proofs.ArrivalLemmas.{own-append, before-append, before-now}
use Rattle.bus_tap.specs.declared.places.BitPlaces.{BitPlaces}
use Rattle.bus_tap.specs.Places.{KeepsPlaces}
use Rattle.bus_clocks.specs.Clocks.{ClockState, IsAfterArrivals}
use Rattle.bus_clocks.specs.Internal.Parts.{Parts, beyond, upto}
use Rattle.bus_clocks.specs.Internal.Stretch.{NotesMany, Opens, TakesNoted, place_after}
use Rattle.bus_clocks.specs.declared.parted.Parted.{Parted}
use Rattle.bus_clocks.specs.declared.stretch.Standing.{Standing}
use Rattle.bus_tap.proofs.LocatedLemmas.{LastBit, same-number}
use Rattle.bus_clocks.proofs.MiddleLemmas.{IsStretch, stretch-seconds}
use Rattle.bus_clocks.proofs.PartsLemmas.{EndsWithSecond, before-behind}
use Rattle.bus_tap.proofs.PlacesLemmas.{begun-before, begun-within}
use Rattle.bus_clocks.proofs.OpeningLemmas.{opening-begun, opening-decided}

pub record Scanned {C : Type 0} (view : CheckView C) (old : ClockState C) (zs : List Arrival) (e : Option Event)
    (second : LineState C) (places : BitPlaces) : Type 0 where
  pub ends : EndsWithSecond zs
  pub advances : AdvancesWith view old.second (own Second zs) e second
  pub answer : (b : List Bool) → After view old.second b → option_map (reported second.octets) e
      ≡ due_of old.second (b ++ own Second zs) (length b + length (own Second zs) - 1)
  pub number : ℕ
  pub at_place : number ≡ old.second.place
  pub before : List ℕ
  pub opening : Option ℕ
  pub standing : Standing
  pub notes : NotesMany old.places places number before opening standing
  pub opens : Opens view second e opening
  pub count : length before ≡ length (own Second zs)
  pub stands : (i : ℕ) → i < length (own Second zs) → (c : ℕ) × (slice_get before i ≡ Some c)
      × (place_after standing c ≡ old.first.origin + (old.first.place - old.first.origin + firsts_before i zs - 1))

-- as they are scanned and noted
pub scanned-of : {C : Type 0} {view : CheckView C} {old : ClockState C} {scanned : Consumed} {second : LineState C}
    {places : BitPlaces} {s : Standing} {p : Parted} {m from past : ℕ} (ys xs : List Arrival) → Parts ys p →
    IsStretch p ys m scanned.count from past → IsAfterArrivals view old xs →
    TakesNoted view old.second old.places p m s scanned second places → s.taken ≡ length (own First xs) →
    s.origin ≡ old.first.place - s.taken → s.ahead ≡ from →
    Scanned view old (upto scanned.count (beyond m ys)) scanned.event second places
scanned-of {view = view} {old = old} {scanned = scanned} {second = second} {s = s} {p = p} {m = m} {from = from}
    {past = past} ys xs parts some reached takes taken origin ahead =
    let n = scanned.count in
    let zs = upto n (beyond m ys) in
    let bits = stretch-seconds takes.octets p ys m n from past parts some takes.holds in
    record {
      ends = some.ends;
      advances = subst (λ more. AdvancesWith view old.second more scanned.event second) bits takes.advances;
      answer = λ b after.
          takes.answer b after
          ∙ (ap (λ more. due_of old.second (b ++ more) (length b + n - 1)) bits
          ∙ ap (λ k. due_of old.second (b ++ own Second zs) (length b + k - 1)) (sym some.seconds));
      number = old.second.place;
      at_place = refl;
      before = take n (drop m p.before);
      opening = takes.opening;
      standing = s;
      notes = takes.notes;
      opens = takes.opens;
      count = some.count ∙ sym some.seconds;
      stands = λ i inside.
          let item = some.items i (omega (arith, inside, some.seconds)) in
          (item.0, item.1, omega (arith, item.2, taken, origin, ahead, reached.first.has_taken.place));
    }

module _ {C : Type 0} {view : CheckView C} {old : ClockState C} {zs : List Arrival} {e : Option Event}
    {second : LineState C} {places : BitPlaces} (it : DueIsIt) (s : Scanned view old zs e second places)
    (xs : List Arrival) (reached : IsAfterArrivals view old xs) where
  abbrev b : List Bool
  b = own Second xs

  abbrev us : List Arrival
  us = s.ends.front

  abbrev last : List Arrival
  last = (Second, s.ends.bit) ∷ []

  abbrev b-then : List Bool
  b-then = own Second (xs ++ us)

  pub firsts-same : own First zs ≡ own First us
  firsts-same = ap (own First) s.ends.whole ∙ (own-append First us last ∙ append-nil (own First us))

  pub seconds-end : own Second zs ≡ own Second us ++ s.ends.bit ∷ []
  seconds-end = ap (own Second) s.ends.whole ∙ own-append Second us last

  pub seconds-count : length (own Second zs) ≡ length (own Second us) + 1
  seconds-count = omega (arith, ap length seconds-end, length-append (own Second us) (s.ends.bit ∷ []))

  pub all-parted : xs ++ zs ≡ (xs ++ us) ++ last
  all-parted = ap (λ ys. xs ++ ys) s.ends.whole ∙ sym (append_assoc xs us last)

  bits-parted : b ++ own Second zs ≡ b-then ++ s.ends.bit ∷ []
  bits-parted = ap (λ c. b ++ c) seconds-end ∙ (sym (append_assoc b (own Second us) (s.ends.bit ∷ []))
      ∙ ap (λ c. c ++ s.ends.bit ∷ []) (sym (own-append Second xs us)))

  count-then : length b-then ≡ length b + length (own Second us)
  count-then = ap length (own-append Second xs us) ∙ length-append b (own Second us)

  count-all : length (own Second (xs ++ zs)) ≡ length b + length (own Second zs)
  count-all = ap length (own-append Second xs zs) ∙ length-append b (own Second zs)

  at-number : s.number ≡ length b
  at-number = omega (arith, s.at_place, reached.second.has_taken.place, reached.origin)

  stood : (i : ℕ) (inside : i < length (own Second zs)) →
      place_after s.standing (s.stands i inside).0 ≡ old.first.origin + place_of (xs ++ zs) (length b + i)
  stood i inside = omega (
    arith,
    (s.stands i inside).2,
    before-behind i xs zs,
    reached.first.has_taken.place,
  )

  stays : (k : ℕ) → k < length b → old.first.origin + place_of xs k ≡ old.first.origin + place_of (xs ++ zs) k
  stays k inside = ap (λ m. old.first.origin + (m - 1)) (sym (before-append k xs zs inside))

  opened-at : (k : ℕ) → s.opening ≡ Some k → k < length b + length (own Second zs) →
      (k < length b → begun b ≡ Some k) → places.opened ≡ old.first.origin + place_of (xs ++ zs) k
  opened-at k is inside was = elim (cases_lt k (length b)) [
    | inl before ↦
        s.notes.kept (λ j here. omega (arith, same-number j k (sym here ∙ is), before, at-number))
        ∙ (reached.places.opened k (was before) ∙ stays k before)
    | inr behind ↦
        (let i : ℕ = k - length b in
        let near : i < length (own Second zs) = omega (arith, behind, inside) in
        let sum : s.number + i ≡ k = omega (arith, at-number, behind) in
        let here : length b + i ≡ k = omega (arith, behind) in
        s.notes.opened i (s.stands i near).0 (is ∙ ap Some (sym sum)) (s.stands i near).1
        ∙ (stood i near ∙ ap (λ j. old.first.origin + place_of (xs ++ zs) j) here))
  ]

  answer-now : option_map (reported second.octets) e
      ≡ option_map (moved 0) (due_at old.second.longest (b-then ++ s.ends.bit ∷ []) (length b-then))
  answer-now =
      let place : length b + length (own Second zs) - 1 ≡ length b-then =
      omega (arith, seconds-count, count-then) in
      let n : ℕ = length b + length (own Second zs) - 1 in
      s.answer b reached.second
      ∙ (ap (λ o. option_map (moved o) (due_at old.second.longest (b ++ own Second zs) n)) reached.origin
      ∙ (ap (λ (k : ℕ). option_map (moved 0) (due_at old.second.longest (b ++ own Second zs) k)) place
      ∙ ap (λ c. option_map (moved 0) (due_at old.second.longest c (length b-then))) bits-parted))

  pub scanned-kept : KeepsPlaces old.first.origin places (xs ++ zs)
  scanned-kept = record {
    reached =
        let i = length (own Second us) in
        let near : i < length (own Second zs) = omega (arith, seconds-count) in
        let at : length s.before - 1 ≡ i = omega (arith, s.count, seconds-count) in
        let now : firsts_before i zs ≡ length (own First us) =
        ap (firsts_before i) s.ends.whole ∙ before-now us s.ends.bit in
        s.notes.reached (s.stands i near).0 (ap (slice_get s.before) at ∙ (s.stands i near).1)
        ∙ omega (
          arith,
          (s.stands i near).2,
          now,
          reached.first.has_taken.place,
          ap length (own-append First xs zs),
          length-append (own First xs) (own First zs),
          ap length firsts-same,
        );
    recent = λ k inside near. elim (cases_lt k (length b)) [
      | inl before ↦
          s.notes.others k (omega (arith, at-number, before)) (omega (arith, at-number, s.count, near, count-all))
          ∙ (reached.places.recent k before (omega (arith, near, count-all)) ∙ ap Some (stays k before))
      | inr behind ↦
          (let i : ℕ = k - length b in
          let within : i < length (own Second zs) = omega (arith, behind, inside, count-all) in
          let sum : k ≡ s.number + i = omega (arith, at-number, behind) in
          let here : length b + i ≡ k = omega (arith, behind) in
          ap (λ j. slice_get places.recent (j % 16)) sum
          ∙ (s.notes.recent i (s.stands i within).0 (s.stands i within).1
          (omega (arith, s.count, near, count-all, behind))
          ∙ ap Some (stood i within ∙ ap (λ j. old.first.origin + place_of (xs ++ zs) j) here)))
    ];
    opened = λ k is.
        let all : begun (b ++ own Second zs) ≡ Some k = rw (own-append Second xs zs) at is in
        let after : After view second (b-then ++ s.ends.bit ∷ []) =
        rw (bits-parted) at (s.advances.decides.leads.after b reached.second) in
        let now : begun (b-then ++ s.ends.bit ∷ []) ≡ Some k = rw (bits-parted) at all in
        let opening = opening-begun view second old.second.longest b-then s.ends.bit second.octets e s.opening k it
        (s.advances.decides.leads.origin ∙ reached.origin) after s.opens answer-now now in
        opened-at k opening (omega (arith, begun-within (b ++ own Second zs) k all, length-append b (own Second zs)))
        (λ before. begun-before b (own Second zs) k all before);
  }

  pub scanned-last : LastBit old.first.origin old.second.longest (xs ++ us) s.ends.bit second.octets e places
  scanned-last = record {
    kept = rw (all-parted) at scanned-kept;
    opened = λ r due was.
        let opening = opening-decided view second old.second.longest b-then s.ends.bit second.octets e s.opening r
        s.opens answer-now due was in
        let then : begun (b ++ own Second us) ≡ Some r.first = rw (own-append Second xs us) at (was.opened) in
        opened-at r.first opening
        (omega (arith, begun-within b-then r.first was.opened, count-then, seconds-count))
        (λ before. begun-before b (own Second us) r.first then before)
        ∙ ap (λ ys. old.first.origin + place_of ys r.first) all-parted;
    answer = answer-now;
  }

-- what the last bit decides is whole
pub whole-scanned : {C : Type 0} {view : CheckView C} {old : ClockState C} {zs : List Arrival} {e : Option Event}
    {second : LineState C} {places : BitPlaces} → DueIsIt → FrameIsSpelled → Scanned view old zs e second places →
    (b : List Bool) → After view old.second b → (os : List ℕ) → os ≡ second.octets → (f : Event) → e ≡ Some f →
    IsWhole f.kind os
whole-scanned {old = old} {zs = zs} {second = second} due spelled s b after os same f is =
    rw same (whole old.second.longest old.second.origin (b ++ own Second zs) (length b + length (own Second zs) - 1)
    second.octets f due spelled (ap (option_map (reported second.octets)) (sym is) ∙ s.answer b after))
