-- The counters have room, and frames are whole.
use Rattle.std.proofs.Common.{◌≡◌, ℕ, zero, suc, ◌+◌, ◌*◌, ◌≤◌, ◌^◌, Bool, List, [], ◌∷◌, length, Option, Some}
use Rattle.std.proofs.Common.{None, refl, sym, ap, ◌∙◌, arith, get_or, map}
use Rattle.std.specs.List.{filter_map, cons_option, sum_by}
use Rattle.std.specs.Option.{option_map}
use Rattle.std.proofs.lemmas.List.{length-map, length-append}
use Rattle.std.proofs.lemmas.List.Sums.{sum_by-le, sum_by-append}
use Rattle.bus_fcs.specs.Check.{CheckView}
use Rattle.bus_line.specs.Report.{Report, Kind, Frame, moved}
use Rattle.bus_line.specs.Due.{places, reports, placed, due_at}
use Rattle.bus_line.specs.Ledger.{octet_count}
use Rattle.bus_line.specs.Laws.{FramesStored, StoredPaid, AssembledWithin, DueIsIt, FrameIsSpelled}
use Rattle.bus_line.specs.Shown.{kind_with, reported}
use Rattle.bus_line.specs.declared.event.Event.{Event}
use Rattle.bus_line.specs.declared.event.EventKind.{EventKind}
use Rattle.bus_line.specs.declared.event.EventKind.TheVariants as event
use Rattle.bus_dictionary.specs.Dictionary.{longest_of}
use Rattle.bus_line.specs.LineReport.{LineReport, line_report}
use Rattle.bus_line.specs.declared.line.Line.{Line}
use Rattle.bus_pairing.specs.Ledger.{kind_steps, steps, handled, handled_of, copied_of}
use Rattle.bus_pairing.specs.Conversation.{ConversationState, ConversationAfter, HasRoom, IsWhole}
use Rattle.bus_watch.specs.After.{AnalyserState, IsAfter, line_reports}

length-places : (n : ℕ) → length (places n) ≡ n
length-places zero = refl
length-places (suc n) = omega (arith, length-append (places n) (n ∷ []), length-places n)

cons_option-length : {Y : Type 0} (o : Option Y) (ys : List Y) → length (cons_option o ys) ≤ suc (length ys)
cons_option-length None ys = omega arith
cons_option-length (Some y) ys = omega arith

filter_map-length : {X Y : Type 0} (f : X → Option Y) (xs : List X) → length (filter_map f xs) ≤ length xs
filter_map-length f [] = omega arith
filter_map-length f (x ∷ xs) = omega (arith, cons_option-length (f x) (filter_map f xs), filter_map-length f xs)

pub line-length : (origin longest : ℕ) (b : List Bool) → length (placed origin longest b) ≤ length b
line-length origin longest b =
    omega (
      arith,
      length-map (reports longest b) (moved origin),
      filter_map-length (due_at longest b) (places (length b)),
      length-places (length b),
    )

steps-six : (kind : Kind) → kind_steps kind ≤ 6
steps-six (Frame octets) = omega arith
steps-six (Kind.Damaged cause) = omega arith
steps-six Kind.Overlong = omega arith
steps-six Kind.Abort = omega arith
steps-six Kind.Idle = omega arith

steps-within : (hs : List LineReport) → handled_of hs ≤ 6 * length hs
steps-within hs =
    omega (
      arith,
      sum_by-le (λ (h : LineReport). steps h.report) 6 hs
          (λ i d inside. steps-six (get_or hs i d).report.kind),
    )

pub octets-moved : (origin : ℕ) (rs : List Report) → sum_by octet_count (map (moved origin) rs) ≡ sum_by octet_count rs
octets-moved origin [] = refl
octets-moved origin (r ∷ rs) =
    sum_by-append octet_count (moved origin r ∷ []) (map (moved origin) rs)
    ∙ (ap (λ n. sum_by octet_count (r ∷ []) + n) (octets-moved origin rs) ∙ sym (sum_by-append octet_count (r ∷ []) rs))

pub steps-moved : (origin : ℕ) (rs : List Report) → sum_by steps (map (moved origin) rs) ≡ sum_by steps rs
steps-moved origin [] = refl
steps-moved origin (r ∷ rs) =
    sum_by-append steps (moved origin r ∷ []) (map (moved origin) rs)
    ∙ (ap (λ n. sum_by steps (r ∷ []) + n) (steps-moved origin rs) ∙ sym (sum_by-append steps (r ∷ []) rs))

-- after no more reports than two lines have, all counters have room for one more
pub room-of : (j : ConversationState) (hs : List LineReport) → ConversationAfter j hs → copied_of hs ≤ 2 ^ 62
    → length hs ≤ 2 ^ 61
    + 1 →
    HasRoom j
room-of j hs kept octets few = record {
  copied = omega (arith, kept.copied, octets);
  handled = omega (arith, kept.handled, steps-within hs, few);
}

-- the reports of a line add up as they do without it
pub reports-octets : (on : Option Line) (rs : List Report) → copied_of (map (line_report on) rs) ≡ sum_by octet_count rs
reports-octets on [] = refl
reports-octets on (r ∷ rs) =
    sum_by-append (λ (h : LineReport). octet_count h.report) (line_report on r ∷ []) (map (line_report on) rs)
    ∙ (ap (λ n. sum_by octet_count (r ∷ []) + n) (reports-octets on rs) ∙ sym (sum_by-append octet_count (r ∷ []) rs))

pub reports-steps : (on : Option Line) (rs : List Report) → handled_of (map (line_report on) rs) ≡ handled rs
reports-steps on [] = refl
reports-steps on (r ∷ rs) =
    sum_by-append (λ (h : LineReport). steps h.report) (line_report on r ∷ []) (map (line_report on) rs)
    ∙ (ap (λ n. handled (r ∷ []) + n) (reports-steps on rs) ∙ sym (sum_by-append steps (r ∷ []) rs))

-- after at most 2^60 bits all counters have room
pub room : {C : Type 0} (view : CheckView C) (a : AnalyserState C) (b : List Bool) → FramesStored →
    StoredPaid → AssembledWithin
    → IsAfter view a b → length b ≤ 2 ^ 60 → HasRoom a.conversation
room view a b frames paid within reached few =
    let longest = longest_of a.conversation.dictionary in
    let rs = placed a.decoder.origin longest b in
    room-of a.conversation (line_reports a b) reached.conversation
    (omega (
      arith,
      reports-octets None rs,
      octets-moved a.decoder.origin (reports longest b),
      frames longest b,
      paid longest b,
      within b,
      few,
    ))
    (omega (arith, length-map rs (line_report None), line-length a.decoder.origin longest b, few))

-- a frame that is due has its head and its check
map-Some : {X Y : Type 0} (f : X → Y) (o : Option X) (y : Y) → Some y ≡ option_map f o →
    (x : X) × (o ≡ Some x) × (f x ≡ y)
map-Some f None y same = absurd (cc)
map-Some f (Some x) y same = (x, refl, cc)

whole-kind : (longest : ℕ) (b : List Bool) (i : ℕ) (octets : List ℕ) (kind : EventKind) → DueIsIt → FrameIsSpelled
    → (r : Report) → due_at longest b i ≡ Some r → r.kind ≡ kind_with octets kind → IsWhole kind octets
whole-kind longest b i octets event.Frame due spelled r due_is kind_is =
    (spelled longest b r octets ((due longest b i r).1 due_is).0 kind_is).2
whole-kind longest b i octets (event.Damaged cause) due spelled r due_is kind_is = tt
whole-kind longest b i octets event.Overlong due spelled r due_is kind_is = tt
whole-kind longest b i octets event.Abort due spelled r due_is kind_is = tt
whole-kind longest b i octets event.Idle due spelled r due_is kind_is = tt

pub whole : (longest origin : ℕ) (b : List Bool) (i : ℕ) (octets : List ℕ) (e : Event) → DueIsIt → FrameIsSpelled
    → Some (reported octets e) ≡ option_map (moved origin) (due_at longest b i) → IsWhole e.kind octets
whole longest origin b i octets e due spelled is =
    let found = map-Some (moved origin) (due_at longest b i) (reported octets e) is in
    whole-kind longest b i octets e.kind due spelled found.0 found.1 (ap (λ (x : Report). x.kind) found.2)
