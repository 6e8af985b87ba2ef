-- An arrival leads an analyser on.
use Rattle.std.proofs.Common.{◌≡◌, ◌+◌, ◌≤◌, ◌^◌, ℕ, Bool, List, [], ◌∷◌, ◌++◌, Option, Some, None, refl, sym, ap}
use Rattle.std.proofs.Common.{◌∙◌, subst, arith, length}
use Rattle.std.specs.Option.{option_map, option_to_list}
use Rattle.bus_fcs.specs.Check.{CheckView}
use Rattle.bus_line.specs.After.{After}
use Rattle.bus_line.specs.Laws.{DueIsIt, FrameIsSpelled}
use Rattle.bus_line.specs.LineState.{LineState}
use Rattle.bus_line.specs.Shown.{reported}
use Rattle.bus_line.specs.declared.event.Event.{Event}
use Rattle.bus_dictionary.specs.Dictionary.{longest_of}
use Rattle.bus_line.specs.LineReport.{LineReport}
use Rattle.bus_pairing.specs.Seen.{SeenReport, seen}
use Rattle.bus_pairing.specs.Conversation.{ConversationState, AdvancesConversation, IsWhole}
use Rattle.bus_line.specs.declared.line.Line.TheVariants.{First, Second}
use Rattle.bus_pairing.proofs.SeenLemmas.{seen-more}
use Rattle.bus_watch.specs.Decodes.{line_reports_of}
use Rattle.bus_watch.proofs.AnalyserViewLemmas.{whole}
use Rattle.bus_tap.specs.Arrival.{Arrival, arrived}
use Rattle.bus_tap.specs.Laws.{ArrivalsGrow}
use Rattle.bus_tap.specs.Lines.{LinesState, AreAfter, PushesLines, DecodesBit}
use Rattle.bus_tap.specs.Places.{AreLocated}
use Rattle.bus_tap.specs.declared.places.BitPlaces.{BitPlaces}
use Rattle.bus_tap.proofs.LinesLemmas.{PushesSecond, lines-first, lines-second}
use Rattle.bus_clocks.specs.Clocks.{ClockState, IsAfterArrivals, AdvancesArrivals, arrival_reports, CountsOn}
use Rattle.bus_clocks.specs.Internal.Pushes.{AdvancesConversationBy}

-- the decoders of an analyser, with what it keeps of places
abbrev pub lines_of : {C : Type 0} → ClockState C → LinesState C
lines_of a = record { first = a.first; second = a.second; places = a.places }

pub lines-after : {C : Type 0} {view : CheckView C} {a : ClockState C} {xs : List Arrival} →
    IsAfterArrivals view a xs → AreAfter view (lines_of a) xs
lines-after reached = record {
  first = reached.first;
  second = reached.second;
  origin = reached.origin;
  longest = reached.longest_second ∙ sym reached.longest;
  places = reached.places;
}

-- an arrival leads from old to new; it decides these reports, of which this is seen
pub record Pushes {C : Type 0} (view : CheckView C) (old : ClockState C) (x : Arrival)
    (decided : List LineReport) (found : Option SeenReport) (new : ClockState C) : Type 0 where
  pub lines : PushesLines view (lines_of old) x decided (lines_of new)
  pub enters : AdvancesConversationBy old.conversation decided found new.conversation
  pub counts : CountsOn old x new

place-more : {C : Type 0} (old new : ClockState C) (x : Arrival) → CountsOn old x new →
    new.first.place + new.second.place ≡ old.first.place + old.second.place + 1
place-more old new (First, bit) counts = omega (arith, counts First, counts Second)
place-more old new (Second, bit) counts = omega (arith, counts First, counts Second)

counts-first : {C : Type 0} (old new : ClockState C) (bit : Bool) → new.first.place ≡ old.first.place + 1 →
    new.second.place ≡ old.second.place → CountsOn old (First, bit) new
counts-first old new bit one none First = one
counts-first old new bit one none Second = none ∙ omega arith

counts-second : {C : Type 0} (old new : ClockState C) (bit : Bool) → new.second.place ≡ old.second.place + 1 →
    new.first.place ≡ old.first.place → CountsOn old (Second, bit) new
counts-second old new bit one none First = none ∙ omega arith
counts-second old new bit one none Second = one

pub sees-arrival : {C : Type 0} (view : CheckView C) (old new : ClockState C) (x : Arrival) (decided : List LineReport)
    (found : Option SeenReport) → ArrivalsGrow → Pushes view old x decided found new →
    AdvancesArrivals view old (x ∷ []) (option_to_list found) new
sees-arrival view old new x decided found grow pushes =
    let enters = pushes.enters in
    let grown : (xs : List Arrival) → IsAfterArrivals view old xs
    → arrival_reports old (xs ++ x ∷ []) ≡ arrival_reports old xs ++ decided =
    λ xs reached. grow old.first.origin (longest_of old.conversation.dictionary) xs x
    ∙ ap (λ hs. arrival_reports old xs ++ hs)
    (rw (← reached.longest) (pushes.lines.decides xs (lines-after reached))) in
    let same : (ys : List Arrival) → arrival_reports new ys ≡ arrival_reports old ys = λ ys.
    ap (λ o. arrived o (longest_of new.conversation.dictionary) ys) pushes.lines.origin
    ∙ ap (λ d. arrived old.first.origin (longest_of d) ys) enters.dictionary in
    record {
      is_after = λ xs reached.
          let after = pushes.lines.after xs (lines-after reached) in
          let longest = pushes.lines.longest ∙ (reached.longest ∙ ap longest_of (sym enters.dictionary)) in
          record {
            first = after.first;
            second = after.second;
            origin = after.origin;
            longest = longest;
            longest_second = after.longest ∙ longest;
            places = after.places;
            conversation = rw (same (xs ++ x ∷ []), grown xs reached) (enters.keeps
                (arrival_reports old xs) reached.conversation);
          };
      seen = λ xs reached. ap (seen old.conversation.dictionary) (grown xs reached)
          ∙ enters.seen (arrival_reports old xs) reached.conversation;
      dictionary = enters.dictionary;
      depth = enters.depth;
      origin = pushes.lines.origin;
      place = place-more old new x pushes.counts;
    }

-- what a conversation makes of a report
pub enters-one : (j k : ConversationState) (h : LineReport) (found : SeenReport) → AdvancesConversation j h found k →
    AdvancesConversationBy j (h ∷ []) (Some found) k
enters-one j k h found enters = record {
  keeps = enters.keeps;
  seen = λ hs kept. seen-more j.dictionary hs h ∙ ap (λ s. seen j.dictionary hs ++ s ∷ []) (sym (enters.says hs kept));
  dictionary = enters.dictionary;
  depth = enters.depth;
}

-- a frame that a bit decides has station, control and check, and so has the same in places
pub whole-decoded : {C : Type 0} {view : CheckView C} {old new : LineState C} {bit : Bool} {o : Option Event} →
    DueIsIt → FrameIsSpelled → DecodesBit view old bit o new → (b : List Bool) → After view old b → (os : List ℕ) →
    os ≡ new.octets → (e : Event) → o ≡ Some e → IsWhole e.kind os
whole-decoded {old = old} {new = new} {bit = bit} due spelled decodes b after os same e is =
    rw same (whole old.longest old.origin (b ++ bit ∷ []) (length b) new.octets e due spelled
    (rw is at (decodes.answer b after)))

pub whole-located : (p : BitPlaces) (o l : Option Event) (os : List ℕ) → AreLocated p o l →
    ((e : Event) → o ≡ Some e → IsWhole e.kind os) → (k : Event) → l ≡ Some k → IsWhole k.kind os
whole-located p None l os located each k is = absurd (let clash = sym located ∙ is in cc)
whole-located p (Some e) l os located each k is =
    let same : located.0 ≡ k = same-event located.0 k (sym located.1 ∙ is) in
    subst (λ kind. IsWhole kind os) (sym located.2.kind ∙ ap (λ (x : Event). x.kind) same) (each e refl)
  where
    same-event : (x y : Event) → Some x ≡ Some y → x ≡ y
    same-event x y is = cc

-- a bit of the first line
pub push-first : {C : Type 0} (view : CheckView C) (old new : ClockState C) (bit : Bool) (e : Option Event)
    (found : Option SeenReport) → DecodesBit view old.first bit e new.first →
    AdvancesConversationBy old.conversation (line_reports_of (Some First) (option_map
    (reported new.first.octets) e)) found
    new.conversation →
    new.second ≡ old.second → new.places ≡ record old.places { reached = old.first.place } →
    Pushes view old (First, bit) (line_reports_of (Some First) (option_map (reported new.first.octets) e)) found new
push-first view old new bit e found decodes enters second places = record {
  lines = lines-first view (lines_of old) (lines_of new) bit e decodes second places;
  enters = enters;
  counts = counts-first old new bit decodes.advances.decides.leads.place (ap (λ d. d.place) second);
}

-- a bit of the second line
pub push-second : {C : Type 0} (view : CheckView C) (old new : ClockState C) (bit : Bool) (e l : Option Event)
    (number : ℕ) (opens : Bool) (found : Option SeenReport) → old.first.place ≤ 2 ^ 60 →
    PushesSecond view (lines_of old) bit e number opens new.second new.places → AreLocated new.places e l →
    AdvancesConversationBy old.conversation (line_reports_of (Some Second) (option_map
    (reported new.second.octets) l)) found
    new.conversation →
    new.first ≡ old.first →
    Pushes view old (Second, bit) (line_reports_of (Some Second) (option_map (reported new.second.octets) l)) found new
push-second view old new bit e l number opens found bound pushed located enters first = record {
  lines = lines-second view (lines_of old) (lines_of new) bit e l number opens bound pushed located first;
  enters = enters;
  counts = counts-second old new bit pushed.decodes.advances.decides.leads.place (ap (λ d. d.place) first);
}
