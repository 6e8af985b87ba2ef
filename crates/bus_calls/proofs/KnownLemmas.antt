-- From what a call read to all that its reader had.
use Rattle.std.proofs.Common.{◌≡◌, ℕ, ◌-◌, ◌^◌, Bool, true, false, List, [], ◌++◌, length, take, Option, Some, None}
use Rattle.std.proofs.Common.{Result, Ok, Err, IfSome, refl, sym, ap, subst, ◌∙◌, append-nil, inl, inr, arith}
use Rattle.std.specs.Io.KnownBytes.{Appends, Consumes, IsAtEnd}
use Rattle.std.proofs.lemmas.Grind.{common_steps}
use Rattle.bus_formats.specs.Capture.{CaptureOf, CaptureFault, GrowsTo}
use Rattle.bus_dictionary.specs.Entry.{FrameType}
use Rattle.bus_dictionary.specs.Dictionary.{longest_of}
use Rattle.bus_calls.specs.Captures.{fed_by, Form, unplaced, unplaced_whole, reports_seen}
use Rattle.bus_text.specs.Given.{printer_of}
use Rattle.bus_text.specs.Listing.{listing}
use Rattle.bus_text.specs.Put.{TextStopsAt}
use Rattle.bus_calls.specs.Begins.{Begins}
use Rattle.bus_calls.specs.Internal.Kinds.{FormLaws}
use Rattle.bus_calls.specs.Lists.{so_far, in_all, listing_of, ending_of, whole_listing, ListsSoFar, ListsToFault}
use Rattle.bus_calls.specs.Lists.{ListsCut, ListsBy}
use Rattle.bus_calls.specs.Known.{text_with, listing_in_all, IsItsFault, ListsIt, ListsKnownBy, ChecksIt, CheckStopsAt}
use Rattle.bus_calls.specs.Known.{ChecksKnownBy}
use Rattle.bus_calls.specs.Checks.{ChecksToFault, ChecksSoFar, ChecksBy}
use Rattle.bus_text.specs.declared.options.Options.{Options}
use Rattle.bus_text.specs.declared.summary.Summary.{Summary}
use Rattle.bus_text.specs.declared.fault.ToolFault.{ToolFault}
use Rattle.bus_text.specs.declared.fault.ToolFault.TheVariants as fault
use Rattle.bus_calls.proofs.CapturesLemmas.{fed-grows, grows-on, placed-bits}
use Rattle.bus_text.proofs.ListingLemmas.{listing-append}
use Rattle.bus_text.proofs.PagesLemmas.{cuts-more}
use Rattle.bus_formats.proofs.CaptureLemmas.{grows-trans}

-- as it grows
grows-self : {X : Type 0} (c : CaptureOf X) → GrowsTo c c
grows-self c = ([], sym (append-nil c.bits), λ f is. refl)

unplaced-ends : {R X : Type 0} (f : Form R X) → FormLaws f → (text : Bool) (xs : List ℕ) →
    GrowsTo (unplaced f text xs) (unplaced_whole f text xs)
unplaced-ends f law true xs = grows-self (f.text xs)
unplaced-ends f law false xs = law.ended xs

-- what was read, and then all
all-grows : {R X : Type 0} (form : Form R X) → FormLaws form → (o : Options) (all xs ys : List ℕ) → all ≡ xs ++ ys →
    GrowsTo (so_far form o xs) (in_all form o all)
all-grows form law o all xs ys parts =
    subst (λ (z : List ℕ). GrowsTo (so_far form o xs) (in_all form o z)) (sym parts)
    (grows-trans (so_far form o xs) (so_far form o (xs ++ ys)) (in_all form o (xs ++ ys))
    (grows-on form law o.text o.rest o.origin xs ys)
    (law.places o.origin _ _ (fed-grows form law o.rest (unplaced form o.text (xs ++ ys))
    (unplaced_whole form o.text (xs ++ ys)) (unplaced-ends form law o.text (xs ++ ys)))))

unplaced_bits : {R X : Type 0} (f : Form R X) → FormLaws f → (text : Bool) (xs : List ℕ) →
    (unplaced_whole f text xs).bits ≡ (unplaced f text xs).bits
unplaced_bits f law true xs = refl
unplaced_bits f law false xs = law.same xs

same_bits : {R X : Type 0} (form : Form R X) → FormLaws form → (o : Options) (d : List FrameType) (xs : List ℕ) →
    Begins o d → (in_all form o xs).bits ≡ (so_far form o xs).bits
same_bits form law o d xs begins =
    placed-bits o.origin (fed_by form o.rest (unplaced_whole form o.text xs)) begins.places
    ∙ ap (λ b. take (2 ^ 60 - o.origin) (form.fed o.rest b)) (unplaced_bits form law o.text xs)
    ∙ sym (placed-bits o.origin (fed_by form o.rest (unplaced form o.text xs)) begins.places)

front_is : (all xs ys : List ℕ) → all ≡ xs ++ ys → take (length xs) all ≡ xs
front_is all xs ys parts = grind (arith, common_steps)

at-end : (all xs ys : List ℕ) → all ≡ xs ++ ys → IsAtEnd (Some ys) → xs ≡ all
at-end all xs ys parts at = sym (append-nil xs) ∙ ap (λ (l : List ℕ). xs ++ l) (sym at) ∙ sym parts

-- the listing of more bits
record GoesOn {R X : Type 0} (form : Form R X) (o : Options) (d : List FrameType) (b c : List X) : Type 0 where
  more : List ℕ
  is : listing_of form o d c ≡ listing_of form o d b ++ more

goes-on : {R X : Type 0} (form : Form R X) → FormLaws form → (o : Options) (d : List FrameType) (b rest c : List X) →
    c ≡ b ++ rest → GoesOn form o d b c
goes-on form law o d b rest c parts =
    let on = law.seen d (longest_of d) o.origin b rest in
    record {
      more = listing (printer_of o) d on.rest;
      is = ap (listing_of form o d) parts ∙ ap (listing (printer_of o) d) on.is
          ∙ listing-append (printer_of o) d (reports_seen form o.origin d b) on.rest;
    }

-- the end comes after it
cut-with : {R X : Type 0} (form : Form R X) (o : Options) (d : List FrameType) (start now : Option (List ℕ))
    (b : List X)
    (f : Option CaptureFault) (sent : ℕ) → TextStopsAt start now (listing_of form o d b) sent →
    TextStopsAt start now (text_with form o d b f) sent
cut-with form o d start now b None sent cut =
    cuts-more start now (listing_of form o d b) (ending_of form o d b) sent cut
cut-with form o d start now b (Some cause) sent cut = cut

fault-known : {R X : Type 0} (form : Form R X) → FormLaws form →
    (o : Options) (d : List FrameType) (start now : Option (List ℕ)) (all xs ys : List ℕ) (f : ToolFault) →
    all ≡ xs ++ ys → Begins o d → ListsToFault form o d (Some ys) start now xs f
    → IsItsFault form o all f × Appends start now (listing_in_all form o d all)
fault-known {X} form law o d start now all xs ys f parts begins stopped = elim stopped.found [
  | inl found ↦
      let same : in_all form o all ≡ so_far form o xs = (all-grows form law o all xs ys parts).2 stopped.cause found in
      let is : (in_all form o all).fault ≡ Some stopped.cause = ap (λ (c : CaptureOf X). c.fault) same ∙ found in
      let text : listing_in_all form o d all ≡ listing_of form o d (so_far form o xs).bits =
      ap (text_with form o d (in_all form o all).bits) is
      ∙ ap (λ (c : CaptureOf X). listing_of form o d c.bits) same in (
        record { cause = stopped.cause; answered = stopped.answered; found = is },
        subst (Appends start now) (sym text) stopped.out,
      )
  | inr end ↦
      let same : xs ≡ all = at-end all xs ys parts end.0 in
      let is : (in_all form o all).fault ≡ Some stopped.cause =
      subst (λ (z : List ℕ). (in_all form o z).fault ≡ Some stopped.cause) same end.1 in
      let text : listing_in_all form o d all ≡ listing_of form o d (so_far form o xs).bits =
      ap (text_with form o d (in_all form o all).bits) is
      ∙ ap (listing_of form o d) (same_bits form law o d all begins
      ∙ ap (λ (z : List ℕ). (so_far form o z).bits) (sym same)) in (
        record { cause = stopped.cause; answered = stopped.answered; found = is },
        subst (Appends start now) (sym text) stopped.out,
      )
]

cut-known : {R X : Type 0} (form : Form R X) → FormLaws form →
    (o : Options) (d : List FrameType) (start now : Option (List ℕ)) (all xs ys : List ℕ) (sent : ℕ) → all ≡ xs ++ ys →
    ListsCut form o d (Some ys) start now xs sent → TextStopsAt start now (listing_in_all form o d all) sent
cut-known form law o d start now all xs ys sent parts stopped = elim stopped.said [
  | inl said ↦
      let grows = all-grows form law o all xs ys parts in
      let on = goes-on form law o d (so_far form o xs).bits grows.0 (in_all form o all).bits grows.1 in
      let cut = cuts-more start now (listing_of form o d (so_far form o xs).bits) on.more sent
      (subst (λ (t : List ℕ). TextStopsAt start now t sent) said stopped.cut) in
      cut-with form o d start now (in_all form o all).bits (in_all form o all).fault sent
      (subst (λ (t : List ℕ). TextStopsAt start now t sent) (sym on.is) cut)
  | inr end ↦
      let same : xs ≡ all = at-end all xs ys parts end.0 in
      let text : listing_in_all form o d xs ≡ whole_listing form o d (in_all form o xs).bits =
      ap (text_with form o d (in_all form o xs).bits) end.1 in
      subst (λ (z : List ℕ). TextStopsAt start now (listing_in_all form o d z) sent) same
      (subst (λ (t : List ℕ). TextStopsAt start now t sent) (end.2 ∙ sym text) stopped.cut)
]

lists-known : {R X : Type 0} (form : Form R X) → FormLaws form →
    (o : Options) (start now : Option (List ℕ)) (all xs ys : List ℕ) (r : Result Summary ToolFault) → all ≡ xs ++ ys →
    ListsBy form o (Some ys) start now xs r → ListsKnownBy form o start now all r
lists-known form law o start now all xs ys (Ok s) parts listed =
    let it = listed.2 in
    let d = listed.0 in
    let same : xs ≡ all = at-end all xs ys parts it.at in
    let text : listing_in_all form o d xs ≡ whole_listing form o d (in_all form o xs).bits =
    ap (text_with form o d (in_all form o xs).bits) it.clean in (
      d,
      listed.1,
      subst (λ (z : List ℕ). ListsIt form o d start now z s) same
          (record { clean = it.clean; out = subst (Appends start now) (sym text) it.out; counts = it.counts }),
    )
lists-known form law o start now all xs ys (Err (fault.Dictionary x)) parts listed =
    record { why = listed.why; unwritten = listed.unwritten }
lists-known form law o start now all xs ys (Err fault.Depth) parts listed =
    record { why = listed.why; unwritten = listed.unwritten }
lists-known form law o start now all xs ys (Err fault.Origin) parts listed =
    record { why = listed.why; unwritten = listed.unwritten }
lists-known form law o start now all xs ys (Err fault.Memory) parts listed =
    record { why = listed.why; unwritten = listed.unwritten }
lists-known form law o start now all xs ys (Err fault.Read) parts listed = (
  listed.0,
  listed.1,
  record {
    octets = length xs;
    front = subst (ListsSoFar form o listed.0 start now) (sym (front_is all xs ys parts))
        listed.2;
  },
)
lists-known form law o start now all xs ys (Err fault.ReadsLimit) parts listed = (
  listed.0,
  listed.1,
  record {
    octets = length xs;
    front = subst (ListsSoFar form o listed.0 start now) (sym (front_is all xs ys parts))
        listed.3;
  },
)
lists-known form law o start now all xs ys (Err (fault.Write sent)) parts listed =
    (listed.0, listed.1, cut-known form law o listed.0 start now all xs ys sent parts listed.2)
lists-known form law o start now all xs ys (Err f) parts listed =
    let known = fault-known form law o listed.0 start now all xs ys f parts listed.1 listed.2 in
    (listed.0, listed.1, known.0, known.1)

-- what a listing answered is what all octets of a reader that tells give
pub known-lists : {R X : Type 0} (form : Form R X) → FormLaws form →
    (o : Options) (before after start now : Option (List ℕ)) (xs : List ℕ) (r : Result Summary ToolFault) →
    Consumes before after xs
    → ListsBy form o after start now xs r → IfSome before (λ all. ListsKnownBy form o start now all r)
known-lists form law o None after start now xs r read listed = tt
known-lists form law o (Some all) None start now xs r read listed = absurd read
known-lists form law o (Some all) (Some ys) start now xs r read listed =
    lists-known form law o start now all xs ys r read listed

-- ---- the check

check-fault : {R X : Type 0} (form : Form R X) → FormLaws form →
    (o : Options) (d : List FrameType) (start now : Option (List ℕ)) (all xs ys : List ℕ) (f : ToolFault) →
    all ≡ xs ++ ys → ChecksToFault form o (Some ys) start now xs f → IsItsFault form o all f
check-fault {X} form law o d start now all xs ys f parts stopped = elim stopped.found [
  | inl found ↦ record {
    cause = stopped.cause;
    answered = stopped.answered;
    found = ap (λ (c : CaptureOf X). c.fault) ((all-grows form law o all xs ys parts).2 stopped.cause found) ∙ found;
  }
  | inr end ↦ record {
    cause = stopped.cause;
    answered = stopped.answered;
    found = subst (λ (z : List ℕ). (in_all form o z).fault ≡ Some stopped.cause) (at-end all xs ys parts end.0) end.1;
  }
]

checks-known : {R X : Type 0} (form : Form R X) → FormLaws form →
    (o : Options) (start now : Option (List ℕ)) (all xs ys : List ℕ) (r : Result Summary ToolFault) → all ≡ xs ++ ys →
    ChecksBy form o (Some ys) start now xs r → ChecksKnownBy form o start now all r
checks-known form law o start now all xs ys (Ok s) parts checked = (
  checked.0,
  checked.1,
  subst (λ (z : List ℕ). ChecksIt form o checked.0 start now z s) (at-end all xs ys parts checked.2.all.at)
      (record { clean = checked.2.all.clean; out = checked.2.out; counts = checked.2.counts }),
)
checks-known form law o start now all xs ys (Err (fault.Dictionary x)) parts checked =
    record { why = checked.why; unwritten = checked.unwritten }
checks-known form law o start now all xs ys (Err fault.Depth) parts checked =
    record { why = checked.why; unwritten = checked.unwritten }
checks-known form law o start now all xs ys (Err fault.Origin) parts checked =
    record { why = checked.why; unwritten = checked.unwritten }
checks-known form law o start now all xs ys (Err fault.Memory) parts checked =
    record { why = checked.why; unwritten = checked.unwritten }
checks-known form law o start now all xs ys (Err fault.Read) parts checked = (
  checked.0,
  checked.1,
  record {
    octets = length xs;
    front = subst (ChecksSoFar form o start now) (sym (front_is all xs ys parts))
        checked.2;
  },
)
checks-known form law o start now all xs ys (Err fault.ReadsLimit) parts checked = (
  checked.0,
  checked.1,
  record {
    octets = length xs;
    front = subst (ChecksSoFar form o start now) (sym (front_is all xs ys parts))
        checked.3;
  },
)
checks-known form law o start now all xs ys (Err (fault.Write sent)) parts checked = (
  checked.0,
  checked.1,
  subst (λ (z : List ℕ). CheckStopsAt form o checked.0 start now z sent) (at-end all xs ys parts checked.2.all.at)
      (record { clean = checked.2.all.clean; cut = checked.2.cut }),
)
checks-known form law o start now all xs ys (Err f) parts checked =
    (checked.0, checked.1, check-fault form law o checked.0 start now all xs ys f parts checked.2, checked.2.unwritten)

-- what a check answered is what all octets of a reader that tells give
pub known-checks : {R X : Type 0} (form : Form R X) → FormLaws form →
    (o : Options) (before after start now : Option (List ℕ)) (xs : List ℕ) (r : Result Summary ToolFault) →
    Consumes before after xs
    → ChecksBy form o after start now xs r → IfSome before (λ all. ChecksKnownBy form o start now all r)
known-checks form law o None after start now xs r read checked = tt
known-checks form law o (Some all) None start now xs r read checked = absurd read
known-checks form law o (Some all) (Some ys) start now xs r read checked =
    checks-known form law o start now all xs ys r read checked
