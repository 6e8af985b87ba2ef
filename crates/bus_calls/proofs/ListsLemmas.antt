-- How the listing of a capture ends.
use Rattle.std.proofs.Common.{◌≡◌, ℕ, Bool, List, [], ◌++◌, Option, Some, None, Result, Ok, Err, MatchResult, refl, sym}
use Rattle.std.proofs.Common.{ap, ◌∙◌, subst, inl, inr}
use Rattle.std.specs.Io.KnownBytes.{Appends}
use Rattle.bus_formats.specs.Capture.{CaptureOf, CaptureFault, capped}
use Rattle.bus_dictionary.specs.Entry.{FrameType}
use Rattle.bus_dictionary.specs.Dictionary.{longest_of}
use Rattle.bus_pairing.specs.Seen.{SeenReport, seen}
use Rattle.bus_pairing.specs.Talk.{pending}
use Rattle.bus_watch.specs.Watch.{seen_by}
use Rattle.bus_calls.specs.Captures.{Form, capture, whole_capture, unplaced, unplaced_whole, reports_of_form}
use Rattle.bus_calls.specs.Captures.{reports_seen, HasFault}
use Rattle.bus_text.specs.Given.{printer_of}
use Rattle.bus_text.specs.Listing.{listing, ending_text}
use Rattle.bus_text.specs.Summary.{summary_of}
use Rattle.bus_text.specs.Put.{TextStopsAt}
use Rattle.bus_text.specs.Pages.{Pages}
use Rattle.bus_calls.specs.Internal.Closes.{IsNoWrite, PageStopsWith}
use Rattle.bus_calls.specs.Begins.{Begins, Refuses}
use Rattle.bus_calls.specs.Internal.Asked.{IsMade, IsRuled}
use Rattle.bus_calls.specs.Internal.Kinds.{KindView, KindLaws}
use Rattle.bus_calls.specs.Internal.Watching.{IsSame, IsCutOff, IsCutIn, reports_by, lines, last_lines, printed, ended}
use Rattle.bus_calls.specs.Internal.Sessions.{capture_so_far, whole_of}
use Rattle.bus_calls.specs.Internal.Reading.{IsClean, IsWholeInput, IsFaulty, ReadStopsWith}
use Rattle.bus_calls.specs.Lists.{so_far, in_all, listing_of, ending_of, whole_listing, ListsSoFar, ListsToFault}
use Rattle.bus_calls.specs.Lists.{ListsBy}
use Rattle.bus_calls.specs.declared.run.CaptureRun.{CaptureRun}
use Rattle.bus_text.specs.declared.options.Options.{Options}
use Rattle.bus_text.specs.declared.summary.Summary.{Summary}
use Rattle.bus_text.specs.declared.fault.ToolFault.{ToolFault}
use Rattle.bus_text.specs.declared.fault.ToolFault.TheVariants as fault
use Rattle.bus_calls.specs.Internal.ReportingLaws.{printed-append}
use Rattle.bus_text.proofs.PagesLemmas.{cuts-more}

-- what is seen of more bits goes on
seen-on : {A R X B : Type 0} (kind : KindView A R X B) → KindLaws kind →
    (d : List FrameType) (origin : ℕ) (b more : List X)
    → (rest : List SeenReport)
    × (seen d (kind.watch.reports origin (longest_of d) (b ++ more)) ≡ seen d
    (kind.watch.reports origin (longest_of d) b)
    ++ rest)
seen-on {X = X} kind law d origin b more =
    let on = law.form.seen d (longest_of d) origin b more in
    let here = λ (xs : List X). ap (λ reports. seen d (reports origin (longest_of d) xs)) law.reports in
    (on.rest, here (b ++ more) ∙ on.is ∙ ap (λ z. z ++ on.rest) (sym (here b)))

-- a cut in the lines of a front is one in the lines of all
pub cut-all : {A R X B : Type 0} (kind : KindView A R X B) → KindLaws kind →
    (start now : Option (List ℕ)) (w : CaptureRun A) (b : List X) (sent : ℕ) → IsCutOff kind start now w b sent →
    TextStopsAt start now (lines kind w b) sent
cut-all kind law start now w b sent cut =
    let d = kind.watch.dictionary w.analyser in
    let on = seen-on kind law d (kind.watch.origin w.analyser) cut.front cut.more in
    let more : lines kind w b ≡ lines kind w cut.front ++ printed w.reporter.printer d on.0 =
    ap (lines kind w) cut.all ∙ ap (printed w.reporter.printer d) on.1
    ∙ printed-append w.reporter.printer d (seen_by kind.watch w.analyser cut.front) on.0 in
    subst (λ (t : List ℕ). TextStopsAt start now t sent) (sym more)
    (cuts-more start now (lines kind w cut.front) (printed w.reporter.printer d on.0) sent cut.cut)

-- what was asked of a listing, and is kept
pub record IsListed {A R X B : Type 0} (kind : KindView A R X B) (o : Options) (d : List FrameType) (w : CaptureRun A) :
    Type 0 where
  pub printer : w.reporter.printer ≡ Some (printer_of o)
  pub dictionary : kind.watch.dictionary w.analyser ≡ d
  pub origin : kind.watch.origin w.analyser ≡ o.origin
  pub rest : (b : List R) → kind.form.fed (kind.rest w.analyser) b ≡ kind.form.fed o.rest b

pub listed : {A R X B : Type 0} {kind : KindView A R X B} (o : Options) {d : List FrameType} {w v : CaptureRun A} →
    w.reporter.printer ≡ Some (printer_of o) → IsMade kind.watch d o.depth o.origin w.analyser →
    IsRuled kind o.rest w.analyser → IsSame kind w v → IsListed kind o d v
listed {kind = kind} o printer made ruled same =
    record {
      printer = same.printer ∙ printer;
      dictionary = same.dictionary ∙ made.dictionary;
      origin = same.origin ∙ made.origin;
      rest = λ b. ap (λ (n : ℕ). kind.form.fed n b) same.rest ∙ ruled.same b;
    }

-- the reports, as the options tell of them
pub reports-is : {A R X B : Type 0} (kind : KindView A R X B) → KindLaws kind →
    (o : Options) (d : List FrameType) (a : A) (b : List X) → kind.watch.dictionary a ≡ d →
    kind.watch.origin a ≡ o.origin →
    reports_by kind.watch a b ≡ reports_of_form kind.form o.origin d b
reports-is kind law o d a b dictionary origin =
    ap (λ reports. reports (kind.watch.origin a) (longest_of (kind.watch.dictionary a)) b) law.reports
    ∙ ap (λ (n : ℕ). kind.form.reports n (longest_of (kind.watch.dictionary a)) b) origin
    ∙ ap (λ (x : List FrameType). kind.form.reports o.origin (longest_of x) b) dictionary

-- and what is seen of them
pub seen-is : {A R X B : Type 0} (kind : KindView A R X B) → KindLaws kind →
    (o : Options) (d : List FrameType) (a : A) (b : List X) → kind.watch.dictionary a ≡ d →
    kind.watch.origin a ≡ o.origin →
    seen_by kind.watch a b ≡ reports_seen kind.form o.origin d b
seen-is kind law o d a b dictionary origin =
    ap (seen (kind.watch.dictionary a)) (reports-is kind law o d a b dictionary origin)
    ∙ ap (λ (x : List FrameType). seen x (reports_of_form kind.form o.origin d b)) dictionary

pub lines-are : {A R X B : Type 0} (kind : KindView A R X B) → KindLaws kind →
    (o : Options) (d : List FrameType) (w : CaptureRun A) (b : List X) → IsListed kind o d w →
    lines kind w b ≡ listing_of kind.form o d b
lines-are kind law o d w b asked =
    ap (λ p. printed p (kind.watch.dictionary w.analyser) (seen_by kind.watch w.analyser b)) asked.printer
    ∙ ap (λ (x : List FrameType). listing (printer_of o) x (seen_by kind.watch w.analyser b)) asked.dictionary
    ∙ ap (listing (printer_of o) d) (seen-is kind law o d w.analyser b asked.dictionary asked.origin)

pub last-are : {A R X B : Type 0} (kind : KindView A R X B) → KindLaws kind →
    (o : Options) (d : List FrameType) (w : CaptureRun A) (b : List X) → IsListed kind o d w →
    last_lines kind w b ≡ ending_of kind.form o d b
last-are kind law o d w b asked =
    ap (λ p.
    ended p (kind.form.ending (kind.watch.origin w.analyser) b
    (pending (kind.watch.dictionary w.analyser) (reports_by kind.watch w.analyser b)))) asked.printer
    ∙ ap (λ (n : ℕ). ending_text (printer_of o)
    (kind.form.ending n b (pending (kind.watch.dictionary w.analyser) (reports_by kind.watch w.analyser b))))
    asked.origin
    ∙ ap (λ (x : List FrameType). ending_text (printer_of o)
    (kind.form.ending o.origin b (pending x (reports_by kind.watch w.analyser b)))) asked.dictionary
    ∙ ap (λ hs. ending_text (printer_of o) (kind.form.ending o.origin b (pending d hs)))
    (reports-is kind law o d w.analyser b asked.dictionary asked.origin)

pub counts-are : {A R X B : Type 0} (kind : KindView A R X B) → KindLaws kind →
    (o : Options) (d : List FrameType) (w : CaptureRun A) (b : List X) → kind.watch.dictionary w.analyser ≡ d →
    kind.watch.origin w.analyser ≡ o.origin → w.reporter.summary ≡ summary_of (seen_by kind.watch w.analyser b) →
    w.reporter.summary ≡ summary_of (reports_seen kind.form o.origin d b)
counts-are kind law o d w b dictionary origin counts =
    counts ∙ ap summary_of (seen-is kind law o d w.analyser b dictionary origin)

-- the options can't be met
pub does-nothing : {R X : Type 0} (f : Form R X) (o : Options) (after start now : Option (List ℕ)) (fault : ToolFault) →
    Refuses o fault → Appends start now [] → ListsBy f o after start now [] (Err fault)
does-nothing f o after start now (fault.Dictionary x) why out = record { why = why; unread = refl; unwritten = out }
does-nothing f o after start now fault.Depth why out = record { why = why; unread = refl; unwritten = out }
does-nothing f o after start now fault.Origin why out = record { why = why; unread = refl; unwritten = out }
does-nothing f o after start now fault.Memory why out = record { why = why; unread = refl; unwritten = out }
does-nothing f o after start now _ why out = absurd why

-- a capture as the options tell of it
pub so-far-is : {R X : Type 0} (f : Form R X) (o : Options) (text : Bool) (rest n : ℕ) (xs : List ℕ) → text ≡ o.text →
    ((b : List R) → f.fed rest b ≡ f.fed o.rest b) → n ≡ o.origin → capture f text rest n xs ≡ so_far f o xs
so-far-is f o text rest n xs same-text same-rest same-origin = ap (λ (b : Bool). capture f b rest n xs) same-text
    ∙ ap (λ (k : ℕ). capture f o.text rest k xs) same-origin
    ∙ ap (λ b. capped o.origin (record { bits = b; fault = (unplaced f o.text xs).fault }))
    (same-rest (unplaced f o.text xs).bits)

pub in-all-is : {R X : Type 0} (f : Form R X) (o : Options) (text : Bool) (rest n : ℕ) (xs : List ℕ) → text ≡ o.text →
    ((b : List R) → f.fed rest b ≡ f.fed o.rest b) → n ≡ o.origin → whole_capture f text rest n xs ≡ in_all f o xs
in-all-is f o text rest n xs same-text same-rest same-origin = ap (λ (b : Bool). whole_capture f b rest n xs) same-text
    ∙ ap (λ (k : ℕ). whole_capture f o.text rest k xs) same-origin
    ∙ ap (λ b. capped o.origin (record { bits = b; fault = (unplaced_whole f o.text xs).fault }))
    (same-rest (unplaced_whole f o.text xs).bits)

pub fault-is : {R X : Type 0} (f : Form R X) (o : Options) (text : Bool) (rest n : ℕ) (after : Option (List ℕ))
    (xs : List ℕ) (cause : CaptureFault) → text ≡ o.text → ((b : List R) → f.fed rest b ≡ f.fed o.rest b) →
    n ≡ o.origin → HasFault f text rest n after xs cause → HasFault f o.text o.rest o.origin after xs cause
fault-is f o text rest n after xs cause same-text same-rest same-origin (inl found) =
    inl (sym (ap (λ c. c.fault) (so-far-is f o text rest n xs same-text same-rest same-origin)) ∙ found)
fault-is f o text rest n after xs cause same-text same-rest same-origin (inr found) =
    inr (found.0, sym (ap (λ c. c.fault) (in-all-is f o text rest n xs same-text same-rest same-origin)) ∙ found.1)

-- the lines of the bits so far are their listing
lines-so-far : {A R X B : Type 0} (kind : KindView A R X B) → KindLaws kind →
    (o : Options) (d : List FrameType) (text : Bool) (w : CaptureRun A) (xs : List ℕ) → text ≡ o.text →
    IsListed kind o d w
    → lines kind w (capture_so_far kind text w xs).bits
    ≡ listing_of kind.form o d (so_far kind.form o xs).bits
lines-so-far {X = X} kind law o d text w xs same-text asked =
    ap (λ (c : CaptureOf X). lines kind w c.bits)
    (so-far-is kind.form o text (kind.rest w.analyser) (kind.watch.origin w.analyser) xs same-text asked.rest
    asked.origin)
    ∙ lines-are kind law o d w (so_far kind.form o xs).bits asked

-- the end of a clean capture
pub ends-lists : {A R X B : Type 0} (kind : KindView A R X B) (o : Options) (d : List FrameType) (text : Bool)
    (after start now later : Option (List ℕ)) (w : CaptureRun A) (xs : List ℕ) (r : Result Summary ToolFault)
    → KindLaws kind → Begins o d → IsListed kind o d w → text ≡ o.text → IsWholeInput kind text after start now w xs
    → MatchResult r
    (λ s. Appends start later (lines kind w (whole_of kind text w xs).bits
    ++ last_lines kind w (whole_of kind text w xs).bits)
    × (s ≡ w.reporter.summary))
    (λ f. IsCutIn start later (lines kind w (whole_of kind text w xs).bits
    ++ last_lines kind w (whole_of kind text w xs).bits) f)
    → ListsBy kind.form o after start later xs r
ends-lists {A} {R} {X} kind o d text after start now later w xs r law begins asked same-text whole ends = cases r ends
  where
    all : CaptureOf X
    all = whole_of kind text w xs

    is : all ≡ in_all kind.form o xs
    is = in-all-is kind.form o text (kind.rest w.analyser)
        (kind.watch.origin w.analyser) xs same-text asked.rest asked.origin

    clean : (in_all kind.form o xs).fault ≡ None
    clean = sym (ap (λ (c : CaptureOf X). c.fault) is) ∙ whole.clean

    texts : lines kind w all.bits ++ last_lines kind w all.bits ≡ whole_listing kind.form o d
        (in_all kind.form o xs).bits
    texts =
        ap (λ (c : CaptureOf X). lines kind w c.bits ++ last_lines kind w c.bits) is
        ∙ ap (λ (t : List ℕ). t ++ last_lines kind w (in_all kind.form o xs).bits)
        (lines-are kind law o d w (in_all kind.form o xs).bits asked)
        ∙ ap (λ (t : List ℕ). listing_of kind.form o d (in_all kind.form o xs).bits ++ t)
        (last-are kind law o d w (in_all kind.form o xs).bits asked)

    cases : (r : Result Summary ToolFault)
        → MatchResult r (λ s. Appends start later (lines kind w all.bits ++ last_lines kind w all.bits)
        × (s ≡ w.reporter.summary)) (λ f. IsCutIn start later (lines kind w all.bits ++ last_lines kind w all.bits) f)
        → ListsBy kind.form o after start later xs r
    cases (Ok s) ended = (
      d,
      begins,
      record {
        at = whole.at;
        clean = clean;
        out = subst (Appends start later) texts ended.0;
        counts = ended.1 ∙ counts-are kind law o d w all.bits asked.dictionary asked.origin whole.bits.counts
            ∙ ap (λ (c : CaptureOf X). summary_of (reports_seen kind.form o.origin d c.bits)) is;
      },
    )
    cases (Err (fault.Write sent)) ended = (
      d,
      begins,
      record {
        text = whole_listing kind.form o d (in_all kind.form o xs).bits;
        said = inr (whole.at, clean, refl);
        cut = subst (λ (t : List ℕ). TextStopsAt start later t sent) texts ended;
      },
    )
    cases (Err _) ended = absurd ended

-- a cut in the listing so far
cut-lists : {R X : Type 0} (form : Form R X) (o : Options) (d : List FrameType) (after start now : Option (List ℕ))
    (xs : List ℕ) (sent : ℕ) → Begins o d → TextStopsAt start now (listing_of form o d (so_far form o xs).bits) sent →
    ListsBy form o after start now xs (Err (fault.Write sent))
cut-lists form o d after start now xs sent begins cut =
    (d, begins, record { text = listing_of form o d (so_far form o xs).bits; said = inl refl; cut = cut })

-- a text that was closed after a fault
closed-lists : {R X : Type 0} (form : Form R X) (o : Options) (d : List FrameType) (after start later : Option (List ℕ))
    (xs : List ℕ) (f answer : ToolFault) (text : List ℕ) → Begins o d →
    text ≡ listing_of form o d (so_far form o xs).bits
    → (Appends start later (listing_of form o d (so_far form o xs).bits) →
    ListsBy form o after start later xs (Err f)) → PageStopsWith start later text f answer →
    ListsBy form o after start later xs (Err answer)
closed-lists form o d after start later xs f answer text begins is go (inl closed) =
    subst (λ (x : ToolFault). ListsBy form o after start later xs (Err x)) (sym closed.0)
    (go (subst (Appends start later) is closed.1))
closed-lists form o d after start later xs f answer text begins is go (inr closed) =
    subst (λ (x : ToolFault). ListsBy form o after start later xs (Err x)) (sym closed.1)
    (cut-lists form o d after start later xs closed.0 begins
    (subst (λ (t : List ℕ). TextStopsAt start later t closed.0) is closed.2))

-- a fault that ended the reading
pub stops-lists : {A R X B : Type 0} (kind : KindView A R X B) (o : Options) (d : List FrameType) (text : Bool)
    (after start now later : Option (List ℕ)) (w : CaptureRun A) (xs : List ℕ) (f answer : ToolFault)
    → KindLaws kind → Begins o d → IsListed kind o d w → text ≡ o.text →
    ReadStopsWith kind text o.reads after start now w xs (Err f)
    → ((sent : ℕ) → f ≡ fault.Write sent → (answer ≡ fault.Write sent) × (later ≡ now))
    → (IsNoWrite f → (start : Option (List ℕ)) (t : List ℕ) →
    Pages start now w.reporter.page.text w.reporter.page.written t → PageStopsWith start later t f answer)
    → ListsBy kind.form o after start later xs (Err answer)
stops-lists {A} {R} {X} kind o d text after start now later w xs f answer law begins asked same-text = cases f
  where
    bits : List X
    bits = (capture_so_far kind text w xs).bits

    is : lines kind w bits ≡ listing_of kind.form o d (so_far kind.form o xs).bits
    is = lines-so-far kind law o d text w xs same-text asked

    clean-is : IsClean kind text start now w xs →
        Appends start later (listing_of kind.form o d (so_far kind.form o xs).bits) →
        ListsSoFar kind.form o d start later xs
    clean-is ended out =
        record {
          clean =
              sym (ap (λ (c : CaptureOf X). c.fault)
              (so-far-is kind.form o text (kind.rest w.analyser) (kind.watch.origin w.analyser) xs same-text asked.rest
              asked.origin))
              ∙ ended.clean;
          out = out;
        }

    faulty-is : (x : ToolFault) → IsFaulty kind text after start now w xs x →
        Appends start later (listing_of kind.form o d (so_far kind.form o xs).bits) →
        ListsToFault kind.form o d after start later xs x
    faulty-is x ended out = record {
      cause = ended.cause;
      answered = ended.answered;
      found = fault-is kind.form o text (kind.rest w.analyser) (kind.watch.origin w.analyser) after xs ended.cause
          same-text asked.rest asked.origin ended.found;
      out = out;
    }

    cases : (f : ToolFault) → ReadStopsWith kind text o.reads after start now w xs (Err f)
        → ((sent : ℕ) → f ≡ fault.Write sent → (answer ≡ fault.Write sent) × (later ≡ now))
        → (IsNoWrite f → (start : Option (List ℕ)) (t : List ℕ) →
        Pages start now w.reporter.page.text w.reporter.page.written t → PageStopsWith start later t f answer)
        → ListsBy kind.form o after start later xs (Err answer)
    cases fault.Read ended cut close =
        closed-lists kind.form o d after start later xs fault.Read answer (lines kind w bits) begins is
        (λ out. (d, begins, clean-is ended out)) (close (λ sent same. cc) start (lines kind w bits) ended.bits.page)
    cases fault.ReadsLimit ended cut close =
        closed-lists kind.form o d after start later xs fault.ReadsLimit answer (lines kind w bits) begins is
        (λ out. (d, begins, ended.0, clean-is ended.1 out))
        (close (λ sent same. cc) start (lines kind w bits) ended.1.bits.page)
    cases (fault.Write sent) ended cut close =
        let answers = cut sent refl in
        subst (λ (x : ToolFault). ListsBy kind.form o after start later xs (Err x)) (sym answers.0)
        (cut-lists kind.form o d after start later xs sent begins
        (subst (λ (t : List ℕ). TextStopsAt start later t sent) is
        (subst (λ x. TextStopsAt start x (lines kind w bits) sent) (sym answers.1)
        (cut-all kind law start now w bits sent ended))))
    cases (fault.Dictionary x) ended cut close = absurd ended.answered
    cases fault.Depth ended cut close = absurd ended.answered
    cases fault.Origin ended cut close = absurd ended.answered
    cases fault.Memory ended cut close = absurd ended.answered
    cases x ended cut close =
        closed-lists kind.form o d after start later xs x answer (lines kind w bits) begins is
        (λ out. (d, begins, faulty-is x ended out)) (close (λ sent same. cc) start (lines kind w bits) ended.bits.page)
