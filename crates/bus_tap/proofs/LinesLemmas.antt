-- An arrival leads two decoders on, with what is kept of places.
use Rattle.std.proofs.Common.{◌≡◌, ℕ, ◌+◌, ◌-◌, ◌%◌, ◌^◌, ◌≤◌, ◌==◌, Bool, true, false, List, []}
use Rattle.std.proofs.Common.{◌∷◌, ◌++◌, length, map, Option, Some, None, sym, ap, ◌∙◌, subst, arith, append-nil}
use Rattle.std.proofs.Common.{◌⊎◌, inl, inr}
use Rattle.std.specs.List.{slice_get}
use Rattle.std.specs.Option.{option_map, option_to_list}
use Rattle.std.proofs.lemmas.Bool.{cases_lt, ne_eqb, eq-eqb}
use Rattle.bus_fcs.specs.Check.{CheckView}
use Rattle.bus_line.specs.Due.{begun}
use Rattle.bus_line.specs.Report.{Report}
use Rattle.bus_line.specs.Shown.{reported}
use Rattle.bus_line.specs.Words.{LineState}
use Rattle.bus_line.specs.declared.event.Event.{Event}
use Rattle.bus_line.specs.LineReport.{line_report}
use Rattle.bus_line.specs.declared.line.Line.TheVariants.{First, Second}
use Rattle.bus_tap.specs.Arrival.{Arrival, own, place_of}
use Rattle.bus_tap.specs.Places.{KeepsPlaces, Notes, AreLocated}
use Rattle.bus_tap.specs.Lines.{LinesState, AreAfter, PushesLines, DecodesBit, BeginsAt, OpensWith}
use Rattle.bus_tap.specs.declared.places.BitPlaces.{BitPlaces}
use Rattle.bus_tap.proofs.ArrivalLemmas.{own-append, before-within}
use Rattle.bus_tap.proofs.ArrivedLemmas.{decides-first}
use Rattle.bus_tap.proofs.LocatedLemmas.{LastBit, decides-located, same-number, some-is}
use Rattle.bus_tap.proofs.PlacesLemmas.{places-first, places-second, opened-place, WasOpen, begun-within}

-- a bit of the first line
pub lines-first : {C : Type 0} (view : CheckView C) (old new : LinesState C) (bit : Bool) (e : Option Event) →
    DecodesBit view old.first bit e new.first → new.second ≡ old.second →
    new.places ≡ record old.places { reached = old.first.place } →
    PushesLines view old (First, bit)
    (map (line_report (Some First)) (option_to_list (option_map (reported new.first.octets) e))) new
lines-first view old new bit e decodes second places =
    let led = decodes.advances.decides.leads in
    let more : List Arrival = (First, bit) ∷ [] in
    record {
      after = λ xs reached. record {
        first = rw (own-append First xs more) (led.after (own First xs) reached.first);
        second = rw (own-append Second xs more, append-nil (own Second xs), second) reached.second;
        origin = ap (λ d. d.origin) second ∙ reached.origin;
        longest = ap (λ d. d.longest) second ∙ (reached.longest ∙ sym led.longest);
        places = rw (led.origin, places) (places-first old.first.origin old.first.place old.places xs bit reached.places
            reached.first.has_taken.place);
      };
      decides = λ xs reached. decides-first old.first.origin old.first.longest xs bit
          ∙ ap (λ o. map (line_report (Some First)) (option_to_list o))
          (sym (decodes.answer (own First xs) reached.first));
      origin = led.origin;
      longest = led.longest;
    }

-- decoder and places after a bit of the second line
pub record PushesSecond {C : Type 0} (view : CheckView C) (old : LinesState C) (bit : Bool) (e : Option Event)
    (number : ℕ) (opens : Bool) (second : LineState C) (places : BitPlaces) : Type 0 where
  pub decodes : DecodesBit view old.second bit e second
  pub at_place : number ≡ old.second.place
  pub notes : Notes old.places places number opens
  pub begins : OpensWith view second number opens

module _ {C : Type 0} {view : CheckView C} {old : LinesState C} {bit : Bool} {e : Option Event} {number : ℕ}
    {opens : Bool} {second : LineState C} {places : BitPlaces}
    (pushed : PushesSecond view old bit e number opens second places)
    (xs : List Arrival) (reached : AreAfter view old xs) where
  at-number : number ≡ length (own Second xs)
  at-number = omega (arith, pushed.at_place, reached.second.has_taken.place, reached.origin)

  notes-at : Notes old.places places (length (own Second xs)) opens
  notes-at = subst (λ k. Notes old.places places k opens) at-number pushed.notes

  opening-at : BeginsAt opens (own Second xs) bit
  opening-at = pushed.begins (own Second xs) bit
      (pushed.decodes.advances.decides.leads.after (own Second xs) reached.second)
      (pushed.decodes.advances.decides.leads.origin ∙ reached.origin) at-number

  places-kept : KeepsPlaces old.first.origin places (xs ++ (Second, bit) ∷ [])
  places-kept = places-second old.first.origin old.places places xs bit opens reached.places notes-at opening-at

  -- that of the first bit of the piece that it decides
  opened-at : (r : Report) → WasOpen (own Second xs) bit r →
      places.opened ≡ old.first.origin + place_of (xs ++ (Second, bit) ∷ []) r.first
  opened-at r was =
      opened-place old.first.origin old.places places xs bit opens reached.places notes-at opening-at r was

  last-bit : LastBit old.first.origin old.second.longest xs bit second.octets e places
  last-bit = record {
    kept = places-kept;
    opened = λ r due was. opened-at r was;
    answer = rw (reached.origin) at (pushed.decodes.answer (own Second xs) reached.second);
  }

-- a bit of the second line
pub lines-second : {C : Type 0} (view : CheckView C) (old new : LinesState C) (bit : Bool) (e l : Option Event)
    (number : ℕ) (opens : Bool) → old.first.place ≤ 2 ^ 60 →
    PushesSecond view old bit e number opens new.second new.places → AreLocated new.places e l →
    new.first ≡ old.first →
    PushesLines view old (Second, bit)
    (map (line_report (Some Second)) (option_to_list (option_map (reported new.second.octets) l))) new
lines-second view old new bit e l number opens bound pushed located first =
    let led = pushed.decodes.advances.decides.leads in
    let more : List Arrival = (Second, bit) ∷ [] in
    record {
      after = λ xs reached. record {
        first = rw (own-append First xs more, append-nil (own First xs), first) reached.first;
        second = rw (own-append Second xs more) (led.after (own Second xs) reached.second);
        origin = led.origin ∙ reached.origin;
        longest = led.longest ∙ (reached.longest ∙ ap (λ d. d.longest) (sym first));
        places = rw (first) (places-kept pushed xs reached);
      };
      decides = λ xs reached. rw (← reached.longest)
          (decides-located e l (omega (arith, reached.first.has_taken.place, bound)) (last-bit pushed xs reached)
          located);
      origin = ap (λ d. d.origin) first;
      longest = ap (λ d. d.longest) first;
    }

-- whether a piece begins with a bit, by where one has begun
pub begins-some : (o : Option ℕ) (origin first n number : ℕ) → Some first ≡ option_map (λ f. origin + f) o →
    origin ≡ 0 → number ≡ n →
    (((first == number) ≡ true) × (o ≡ Some n)) ⊎ (((first == number) ≡ false) × (o ≡ Some n → ⊥))
begins-some None origin first n number is zero at = absurd (cc)
begins-some (Some f) origin first n number is zero at =
    let here : first ≡ f = same-number first (origin + f) is ∙ omega (arith, zero) in
    elim (cases_lt f n) [
      | inl below ↦ inr (
        ne_eqb first number (λ same. omega (arith, same, here, at, below)),
        λ same. omega (arith, same-number f n same, below),
      )
      | inr keeps_up ↦ elim (cases_lt n f) [
        | inl above ↦ inr (
          ne_eqb first number (λ same. omega (arith, same, here, at, above)),
          λ same. omega (arith, same-number f n same, above),
        )
        | inr exact ↦
            (let same : f ≡ n = omega (arith, keeps_up, exact) in
            inl (eq-eqb first number (omega (arith, same, here, at)), ap Some same))
      ]
    ]

pub begins-none : (o : Option ℕ) (origin n : ℕ) → None ≡ option_map (λ f. origin + f) o → o ≡ Some n → ⊥
begins-none None origin n is same = absurd (cc)
begins-none (Some f) origin n is same = absurd (cc)

-- where the open piece of the second line stands, and the last of its bits, of which there are so many
pub record OpenPlaces (origin : ℕ) (p : BitPlaces) (xs : List Arrival) (count : ℕ) : Type 0 where
  pub first : ℕ
  pub begun_at : begun (own Second xs) ≡ Some first
  pub opened : p.opened ≡ origin + place_of xs first
  pub last : slice_get p.recent ((count - 1) % 16) ≡ Some (origin + place_of xs (length (own Second xs) - 1))
  pub fits : origin + place_of xs (length (own Second xs) - 1) ≤ 2 ^ 60

pub open-places : {C : Type 0} (view : CheckView C) (l : LinesState C) (xs : List Arrival) (first count : ℕ) →
    AreAfter view l xs → Some first ≡ option_map (λ k. l.second.origin + k) (begun (own Second xs)) →
    count ≡ l.second.place → l.first.place ≤ 2 ^ 60 → OpenPlaces l.first.origin l.places xs count
open-places view l xs first count reached is at bound =
    let found = some-is (λ k. l.second.origin + k) (begun (own Second xs)) first is in
    let some = begun-within (own Second xs) found.0 found.1 in
    let same : count ≡ length (own Second xs) = omega (arith, at, reached.second.has_taken.place, reached.origin) in
    let k = length (own Second xs) - 1 in
    record {
      first = found.0;
      begun_at = found.1;
      opened = reached.places.opened found.0 found.1;
      last = ap (λ n. slice_get l.places.recent ((n - 1) % 16)) same
          ∙ reached.places.recent k (omega (arith, some)) (omega arith);
      fits = omega (arith, before-within k xs, reached.first.has_taken.place, bound);
    }
