-- How the check of a capture ends.
use Rattle.std.proofs.Common.{◌≡◌, ℕ, ◌<◌, Bool, List, [], ◌++◌, length, Option, None, Result, Ok, Err, MatchResult}
use Rattle.std.proofs.Common.{refl, sym, ap, ◌∙◌, subst, arith, length-append}
use Rattle.std.proofs.lemmas.List.{nil_from_length}
use Rattle.std.specs.Io.KnownBytes.{Appends}
use Rattle.arrayvec.specs.ArrayVec.{ArrayVec}
use Rattle.bus_formats.specs.Capture.{CaptureOf}
use Rattle.bus_dictionary.specs.Entry.{FrameType}
use Rattle.bus_pairing.specs.History.{history, tally}
use Rattle.bus_watch.specs.Watch.{seen_by}
use Rattle.bus_calls.specs.Captures.{Form, reports_of_form, reports_seen}
use Rattle.bus_text.specs.CheckText.{check_text}
use Rattle.bus_text.specs.Summary.{summary_of}
use Rattle.bus_text.specs.Put.{TextStopsAt}
use Rattle.bus_text.specs.Pages.{Pages}
use Rattle.bus_calls.specs.Begins.{Begins, Refuses}
use Rattle.bus_calls.specs.Internal.Asked.{IsMade, IsRuled}
use Rattle.bus_calls.specs.Internal.Kinds.{KindView, KindLaws}
use Rattle.bus_calls.specs.Internal.Watching.{WatchAfter, IsSame, IsCutIn, reports_by, lines, report_text, printed}
use Rattle.bus_calls.specs.Internal.Sessions.{capture_so_far, whole_of}
use Rattle.bus_calls.specs.Internal.Reading.{IsClean, IsWholeInput, ReadStopsWith}
use Rattle.bus_calls.specs.Lists.{in_all}
use Rattle.bus_calls.specs.Checks.{check_report, IsAll, ChecksSoFar, ChecksBy}
use Rattle.bus_calls.specs.declared.run.CaptureRun.{CaptureRun}
use Rattle.bus_text.specs.declared.options.Options.{Options}
use Rattle.bus_text.specs.declared.summary.Summary.{Summary}
use Rattle.bus_text.specs.declared.fault.ToolFault.{ToolFault}
use Rattle.bus_text.specs.declared.fault.ToolFault.TheVariants as fault
use Rattle.bus_calls.proofs.ListsLemmas.{counts-are, fault-is, reports-is, so-far-is, in-all-is}

-- what was asked of a check, and is kept
pub record IsChecked {A R X B : Type 0} (kind : KindView A R X B) (o : Options) (d : List FrameType)
    (w : CaptureRun A) :
    Type 0 where
  pub printer : w.reporter.printer ≡ None
  pub dictionary : (kind.watch.dictionary w.analyser) ≡ d
  pub depth : (kind.watch.depth w.analyser) ≡ o.depth
  pub origin : (kind.watch.origin w.analyser) ≡ o.origin
  pub rest : (b : List R) → kind.form.fed (kind.rest w.analyser) b ≡ kind.form.fed o.rest b

pub checked : {A R X B : Type 0} {kind : KindView A R X B} (o : Options) {d : List FrameType} {w v : CaptureRun A} →
    w.reporter.printer ≡ None → IsMade kind.watch d o.depth o.origin w.analyser →
    IsRuled kind o.rest w.analyser → IsSame kind w v → IsChecked kind o d v
checked {kind = kind} o printer made ruled same =
    record {
      printer = same.printer ∙ printer;
      dictionary = same.dictionary ∙ made.dictionary;
      depth = same.depth ∙ made.depth;
      origin = same.origin ∙ made.origin;
      rest = λ b. ap (λ (n : ℕ). kind.form.fed n b) same.rest ∙ ruled.same b;
    }

-- a check has no lines
pub no-lines : {A R X B : Type 0} (kind : KindView A R X B) (w : CaptureRun A) (b : List X) →
    w.reporter.printer ≡ None →
    lines kind w b ≡ []
no-lines kind w b none = ap (λ p. printed p (kind.watch.dictionary w.analyser) (seen_by kind.watch w.analyser b)) none

-- the report of bits, as the options tell of it
report-is : {A R X B : Type 0} (kind : KindView A R X B) → KindLaws kind →
    (o : Options) (d : List FrameType) (w : CaptureRun A) (b : List X) → IsChecked kind o d w →
    w.reporter.summary ≡ summary_of (reports_seen kind.form o.origin d b) →
    report_text kind w b ≡ check_report kind.form o
    d b
report-is kind law o d w b asked counts =
    let two = kind.form.is_two in
    let sum = summary_of (reports_seen kind.form o.origin d b) in
    let here = reports_by kind.watch w.analyser b in
    ap (λ (s : Summary). check_text two s (tally (kind.watch.dictionary w.analyser) here)
    (history (kind.watch.depth w.analyser) here)) counts
    ∙ ap (λ hs. check_text two sum (tally (kind.watch.dictionary w.analyser) hs)
    (history (kind.watch.depth w.analyser) hs)) (reports-is kind law o d w.analyser b asked.dictionary asked.origin)
    ∙ ap (λ (x : List FrameType). check_text two sum (tally x (reports_of_form kind.form o.origin d b))
    (history (kind.watch.depth w.analyser) (reports_of_form kind.form o.origin d b))) asked.dictionary
    ∙ ap (λ (n : ℕ). check_text two sum (tally d (reports_of_form kind.form o.origin d b))
    (history n (reports_of_form kind.form o.origin d b))) asked.depth

-- the options can't be met
pub checks-nothing : {R X : Type 0} (form : Form R X) (o : Options) (after start now : Option (List ℕ))
    (f : ToolFault) →
    Refuses o f → Appends start now [] → ChecksBy form o after start now [] (Err f)
checks-nothing form o after start now (fault.Dictionary x) why out =
    record { why = why; unread = refl; unwritten = out }
checks-nothing form o after start now fault.Depth why out = record { why = why; unread = refl; unwritten = out }
checks-nothing form o after start now fault.Origin why out = record { why = why; unread = refl; unwritten = out }
checks-nothing form o after start now fault.Memory why out = record { why = why; unread = refl; unwritten = out }
checks-nothing form o after start now _ why out = absurd why

-- the end of a clean capture
pub ends-checks : {A R X B : Type 0} (kind : KindView A R X B) (o : Options) (d : List FrameType) (text : Bool)
    (after start now later : Option (List ℕ)) (w : CaptureRun A) (xs : List ℕ) (r : Result Summary ToolFault)
    → KindLaws kind → Begins o d → IsChecked kind o d w → text ≡ o.text → IsWholeInput kind text after start now w xs
    → MatchResult r
    (λ s. Appends start later (lines kind w (whole_of kind text w xs).bits
    ++ report_text kind w (whole_of kind text w xs).bits)
    × (s ≡ w.reporter.summary))
    (λ f. IsCutIn start later (lines kind w (whole_of kind text w xs).bits
    ++ report_text kind w (whole_of kind text w xs).bits) f)
    → ChecksBy kind.form o after start later xs r
ends-checks {A} {R} {X} kind o d text after start now later w xs r law begins asked same-text read ends = cases r ends
  where
    all : CaptureOf X
    all = whole_of kind text w xs

    is : all ≡ in_all kind.form o xs
    is = in-all-is kind.form o text (kind.rest w.analyser) (kind.watch.origin w.analyser) xs same-text asked.rest
        asked.origin

    whole : IsAll kind.form o after xs
    whole = record { at = read.at; clean = sym (ap (λ (c : CaptureOf X). c.fault) is) ∙ read.clean }

    counts : w.reporter.summary ≡ summary_of (reports_seen kind.form o.origin d (in_all kind.form o xs).bits)
    counts = counts-are kind law o d w all.bits asked.dictionary asked.origin read.bits.counts
        ∙ ap (λ (c : CaptureOf X). summary_of (reports_seen kind.form o.origin d c.bits)) is

    texts : lines kind w all.bits ++ report_text kind w all.bits
        ≡ check_report kind.form o d (in_all kind.form o xs).bits
    texts =
        ap (λ (t : List ℕ). t ++ report_text kind w all.bits) (no-lines kind w all.bits asked.printer)
        ∙ ap (λ (c : CaptureOf X). report_text kind w c.bits) is
        ∙ report-is kind law o d w (in_all kind.form o xs).bits asked counts

    cases : (r : Result Summary ToolFault)
        → MatchResult r (λ s. Appends start later (lines kind w all.bits ++ report_text kind w all.bits)
        × (s ≡ w.reporter.summary)) (λ f. IsCutIn start later (lines kind w all.bits ++ report_text kind w all.bits) f)
        → ChecksBy kind.form o after start later xs r
    cases (Ok s) ended =
        (d, begins, record { all = whole; out = subst (Appends start later) texts ended.0; counts = ended.1 ∙ counts })
    cases (Err (fault.Write sent)) ended =
        (d, begins, record { all = whole; cut = subst (λ (t : List ℕ). TextStopsAt start later t sent) texts ended })
    cases (Err _) ended = absurd ended

lt_none : (n : ℕ) → n < 0 → ⊥
lt_none n less = omega (arith, less)

-- no text was written
none-out : (start now : Option (List ℕ)) (page : ArrayVec ℕ) (written : ℕ) (text : List ℕ) → text ≡ [] →
    Pages start now page written text → Appends start now []
none-out start now page written text empty pages =
    let none : pages.sent ≡ [] =
    nil_from_length pages.sent (omega (
      arith,
      length-append pages.sent page.items,
      ap length (sym pages.whole
          ∙ empty),
    )) in
    subst (Appends start now) none pages.out

-- a fault that ended the reading: without lines no writer is cut off
pub stops-checks : {A R X B : Type 0} (kind : KindView A R X B) (o : Options) (d : List FrameType) (text : Bool)
    (after start now : Option (List ℕ)) (w : CaptureRun A) (xs : List ℕ) (f : ToolFault)
    → Begins o d → IsChecked kind o d w → text ≡ o.text → ReadStopsWith kind text o.reads after start now w xs (Err f) →
    ChecksBy kind.form o after start now xs (Err f)
stops-checks {A} {R} {X} kind o d text after start now w xs f begins asked same-text = cases f
  where
    out : WatchAfter kind start now w (capture_so_far kind text w xs).bits → Appends start now
        []
    out ended = none-out start now w.reporter.page.text w.reporter.page.written
        (lines kind w (capture_so_far kind text w xs).bits)
        (no-lines kind w (capture_so_far kind text w xs).bits asked.printer) ended.page

    clean-is : IsClean kind text start now w xs → ChecksSoFar kind.form o start now xs
    clean-is ended =
        record {
          clean =
              sym (ap (λ (c : CaptureOf X). c.fault)
              (so-far-is kind.form o text (kind.rest w.analyser) (kind.watch.origin w.analyser) xs same-text asked.rest
              asked.origin))
              ∙ ended.clean;
          unwritten = out ended.bits;
        }

    cases : (f : ToolFault) → ReadStopsWith kind text o.reads after start now w xs (Err f) →
        ChecksBy kind.form o after start now xs (Err f)
    cases fault.Read ended = (d, begins, clean-is ended)
    cases fault.ReadsLimit ended = (d, begins, ended.0, clean-is ended.1)
    cases (fault.Write sent) ended =
        absurd (lt_none sent
        (subst (λ (t : List ℕ). sent < length t) (no-lines kind w ended.front asked.printer) ended.short))
    cases (fault.Dictionary x) ended = absurd ended.answered
    cases fault.Depth ended = absurd ended.answered
    cases fault.Origin ended = absurd ended.answered
    cases fault.Memory ended = absurd ended.answered
    cases x ended = (
      d,
      begins,
      record {
        cause = ended.cause;
        answered = ended.answered;
        found = fault-is kind.form o text (kind.rest w.analyser) (kind.watch.origin w.analyser) after xs ended.cause
            same-text asked.rest asked.origin ended.found;
        unwritten = out ended.bits;
      },
    )
