-- How the reading of a capture ends.
use Rattle.std.proofs.Common.{◌≡◌, ℕ, ◌+◌, ◌<◌, Bool, List, [], length, Option, Some, None, Result, Ok}
use Rattle.std.proofs.Common.{Err, MatchResult, refl, sym, ap, ◌∙◌, subst, arith, append-nil, inl, inr}
use Rattle.arrayvec.specs.ArrayVec.{array_vec_len}
use Rattle.std.specs.Io.KnownBytes.{IsAtEnd}
use Rattle.bus_dictionary.specs.Entry.{FrameType}
use Rattle.bus_text.specs.declared.page.Page.{Page}
use Rattle.bus_text.specs.declared.printer.Printer.{Printer}
use Rattle.bus_formats.specs.Capture.{CaptureOf, CaptureFault, capped}
use Rattle.bus_dictionary.specs.Dictionary.{longest_of}
use Rattle.bus_pairing.specs.Seen.{seen}
use Rattle.bus_watch.specs.Watch.{seen_by}
use Rattle.bus_calls.specs.Captures.{fed_by, unplaced, unplaced_whole, IsSameFault}
use Rattle.bus_calls.specs.Internal.Kinds.{KindView, KindLaws}
use Rattle.bus_text.specs.Summary.{summary_of}
use Rattle.bus_text.specs.Pages.{Pages}
use Rattle.bus_text.specs.Put.{TextStopsAt}
use Rattle.bus_calls.specs.Internal.Watching.{IsSame, IsSound, WatchAfter, FeedAfter, IsCutOff, fed, lines, printed}
use Rattle.bus_calls.specs.Internal.Sessions.{IsReadAs, IsReadBy, is_text, SourceAfter, SourceStopsWith}
use Rattle.bus_calls.specs.Internal.Reading.{IsClean, IsFaulty, ReadStopsWith}
use Rattle.bus_calls.specs.declared.run.CaptureRun.{CaptureRun}
use Rattle.bus_calls.specs.declared.reader.Source.{Source}
use Rattle.bus_calls.specs.declared.reader.Source.TheVariants as source
use Rattle.bus_text.specs.declared.fault.ToolFault.{ToolFault}
use Rattle.bus_text.specs.declared.fault.ToolFault.TheVariants as fault
use Rattle.bus_calls.proofs.PutLemmas.{listing-nothing}
use Rattle.bus_calls.proofs.CapturesLemmas.{followed-fits}
use Rattle.bus_formats.proofs.CaptureLemmas.{capped_all}

-- nothing seen has no lines
printed-nothing : (p : Option Printer) (d : List FrameType) → printed p d [] ≡ []
printed-nothing None d = refl
printed-nothing (Some p) d = listing-nothing p d

-- nothing is seen of nothing
seen-none : {A R X B : Type 0} (kind : KindView A R X B) → KindLaws kind → (a : A) → seen_by kind.watch a [] ≡ []
seen-none kind law a =
    ap (seen (kind.watch.dictionary a))
    (ap (λ reports. reports (kind.watch.origin a) (longest_of (kind.watch.dictionary a)) []) law.reports
    ∙ law.form.silent (kind.watch.origin a) (longest_of (kind.watch.dictionary a)))

-- nothing was followed yet
pub watched-none : {A R X B : Type 0} (kind : KindView A R X B) → KindLaws kind →
    (start : Option (List ℕ)) (w : CaptureRun A)
    → kind.watch.is_after w.analyser [] → w.reporter.summary ≡ summary_of [] →
    Pages start start w.reporter.page.text w.reporter.page.written [] → WatchAfter kind start start w []
watched-none kind law start w is_after counts page =
    let d = kind.watch.dictionary w.analyser in
    let none = seen-none kind law w.analyser in record {
      is_after = is_after;
      counts = counts ∙ ap summary_of (sym none);
      page = subst (λ (t : List ℕ). Pages start start w.reporter.page.text w.reporter.page.written t)
          (sym (ap (printed w.reporter.printer d) none ∙ printed-nothing w.reporter.printer d)) page;
    }

-- how its octets were read
pub read-by : {A R X B : Type 0} (kind : KindView A R X B) (start now : Option (List ℕ)) (s : Source B)
    (w : CaptureRun A)
    (xs : List ℕ) → SourceAfter kind start now s w xs → IsReadBy kind s xs
read-by kind start now (source.Text text) w xs followed = followed.clean
read-by kind start now (source.Packed p) w xs followed = followed.read

packed-clean : {A R X B : Type 0} (kind : KindView A R X B) → KindLaws kind →
    (head : List ℕ) (body : Option B) (xs : List ℕ) → IsReadAs kind head body xs → (kind.form.packed xs).fault ≡ None
packed-clean {A} {R} kind law head None xs read = ap (λ (c : CaptureOf R). c.fault) (law.form.short xs read.1).0
packed-clean kind law head (Some body) xs read = law.clean body xs read

-- what was read was followed still when the page has been written
pub turned : {A R X B : Type 0} (kind : KindView A R X B) (start now later : Option (List ℕ)) (s : Source B)
    (w : CaptureRun A) (page : Page) (xs : List ℕ)
    → ((text : List ℕ) → Pages start now w.reporter.page.text w.reporter.page.written text →
    Pages start later page.text page.written text) → SourceAfter kind start now s w xs
    → SourceAfter kind start later s (record w { reporter = record w.reporter { page = page } }) xs
turned {A} {R} {X} {B} kind start now later s w page xs turn = by-kind s
  where
    fed-on : (b : List R) → FeedAfter kind start now w b
        → FeedAfter kind start later (record w { reporter = record w.reporter { page = page } }) b
    fed-on b followed = record {
      rule = followed.rule;
      bits = record {
        is_after = followed.bits.is_after;
        counts = followed.bits.counts;
        page = turn (lines kind w (fed kind w b)) followed.bits.page;
      };
    }

    by-kind : (s : Source B) → SourceAfter kind start now s w xs
        → SourceAfter kind start later s (record w { reporter = record w.reporter { page = page } }) xs
    by-kind (source.Text text) followed =
        record { at = followed.at; clean = followed.clean; bits = fed-on _ followed.bits }
    by-kind (source.Packed p) followed = record { read = followed.read; bits = fed-on _ followed.bits }

module _ {A R X B : Type 0} {kind : KindView A R X B} {w : CaptureRun A} (page : Page) where
  -- all is sound, and the same, still when the page has been written
  pub sound-written : array_vec_len page.text ≡ 0
      → page.written ≡ w.reporter.page.written + array_vec_len w.reporter.page.text → IsSound kind w
      → IsSound kind (record w { reporter = record w.reporter { page = page } })
  sound-written empty sum sound = record {
    places = sound.places;
    counts = sound.counts;
    octets = omega (arith, sound.octets, sum, empty);
  }

  pub same-written : {u : CaptureRun A} → IsSame kind u w
      → IsSame kind u (record w { reporter = record w.reporter { page = page } })
  same-written same = record {
    printer = same.printer;
    dictionary = same.dictionary;
    depth = same.depth;
    origin = same.origin;
    rest = same.rest;
  }

-- what was read has no fault, and its bits were followed
pub record IsUnplaced {A R X B : Type 0} (kind : KindView A R X B) (text : Bool) (start now : Option (List ℕ))
    (w : CaptureRun A) (xs : List ℕ) : Type 0 where
  pub clean : (unplaced kind.form text xs).fault ≡ None
  pub bits : WatchAfter kind start now w (fed kind w (unplaced kind.form text xs).bits)

pub follows-unplaced : {A R X B : Type 0} (kind : KindView A R X B) (start now : Option (List ℕ)) (s : Source B)
    (w : CaptureRun A) (xs : List ℕ)
    → KindLaws kind → SourceAfter kind start now s w xs → IsUnplaced kind (is_text s) start now w xs
follows-unplaced kind start now (source.Text text) w xs law followed =
    record { clean = followed.clean; bits = followed.bits.bits }
follows-unplaced kind start now (source.Packed p) w xs law followed =
    record { clean = packed-clean kind law p.head.items p.body xs followed.read; bits = followed.bits.bits }

-- bits that were followed have a place, and so their capture is as it is
pub all-placed : {A R X B : Type 0} (kind : KindView A R X B) → KindLaws kind →
    (start now : Option (List ℕ)) (w : CaptureRun A) (c : CaptureOf X) → IsSound kind w →
    WatchAfter kind start now w c.bits →
    capped (kind.watch.origin w.analyser) c ≡ c
all-placed kind law start now w c sound followed =
    let fits = followed-fits kind law start now w c.bits sound followed in
    capped_all (kind.watch.origin w.analyser) c (omega (arith, fits))

pub is-clean : {A R X B : Type 0} (kind : KindView A R X B) → KindLaws kind →
    (text : Bool) (start now : Option (List ℕ)) (w : CaptureRun A) (xs : List ℕ)
    → IsSound kind w → IsUnplaced kind text start now w xs → IsClean kind text start now w xs
is-clean {A} {R} {X} kind law text start now w xs sound followed =
    let is = all-placed kind law start now w (fed_by kind.form (kind.rest w.analyser)
    (unplaced kind.form text xs)) sound
    followed.bits in record {
      clean = ap (λ (c : CaptureOf X). c.fault) is ∙ followed.clean;
      bits = subst (λ (c : CaptureOf X). WatchAfter kind start now w c.bits) (sym is) followed.bits;
    }

-- so is what a source's octets are
pub source-clean : {A R X B : Type 0} {kind : KindView A R X B} → KindLaws kind → (s : Source B) {text : Bool}
    {start now : Option (List ℕ)} {w : CaptureRun A} {xs : List ℕ} → is_text s ≡ text → IsSound kind w →
    SourceAfter kind start now s w xs → IsClean kind text start now w xs
source-clean {kind = kind} law s {start = start} {now = now} {w = w} {xs = xs} is sound followed =
    subst (λ (b : Bool). IsClean kind b start now w xs) is
    (is-clean kind law (is_text s) start now w xs sound (follows-unplaced kind start now s w xs law followed))

-- a writer was cut off in the lines of all of these
pub is-cut : {A R X B : Type 0} (kind : KindView A R X B) (start now : Option (List ℕ)) (w : CaptureRun A) (b : List X)
    (sent : ℕ) → TextStopsAt start now (lines kind w b) sent → sent < length (lines kind w b)
    → IsCutOff kind start now w b
    sent
is-cut kind start now w b sent cut short =
    record { front = b; more = []; all = sym (append-nil b); cut = cut; short = short }

-- a fault ends the reading
pub faulty-finishes : {A R X B : Type 0} (kind : KindView A R X B) (text : Bool) (reads : ℕ)
    (after start now : Option (List ℕ)) (w : CaptureRun A) (xs : List ℕ) (f : ToolFault)
    → IsFaulty kind text after start now w xs f → ReadStopsWith kind text reads after start now w xs (Err f)
faulty-finishes kind text reads after start now w xs fault.Read faulty = absurd faulty.answered
faulty-finishes kind text reads after start now w xs fault.ReadsLimit faulty = absurd faulty.answered
faulty-finishes kind text reads after start now w xs (fault.Write sent) faulty = absurd faulty.answered
faulty-finishes kind text reads after start now w xs f faulty = faulty

-- what stopped the taking of octets ends the reading
pub stops-finishes : {A R X B : Type 0} (kind : KindView A R X B) (reads : ℕ) (after start now : Option (List ℕ))
    (w : CaptureRun A) (xs : List ℕ) (f : ToolFault) {source text : Bool} → source ≡ text
    → SourceStopsWith kind source start now w xs f → ReadStopsWith kind text reads after start now w xs (Err f)
stops-finishes kind reads after start now w xs f {text = text} is stopped =
    by-fault f (subst (λ (b : Bool). SourceStopsWith kind b start now w xs f) is stopped)
  where
    by-fault : (f : ToolFault) → SourceStopsWith kind text start now w xs f
        → ReadStopsWith kind text reads after start now w xs (Err f)
    by-fault (fault.Write sent) stopped = stopped
    by-fault f stopped =
        faulty-finishes kind text reads after start now w xs f
        (record { cause = stopped.cause; answered = stopped.answered; found = inl stopped.found; bits = stopped.bits })

-- the end of the input ends it
pub end-finishes : {A R X B : Type 0} (kind : KindView A R X B) → KindLaws kind →
    (text : Bool) (reads : ℕ) (after start now : Option (List ℕ)) (w : CaptureRun A) (xs : List ℕ)
    (r : Result (Unit {0}) ToolFault)
    → IsSound kind w → IsAtEnd after → IsUnplaced kind text start now w xs
    → MatchResult r
    (λ _. unplaced_whole kind.form text xs ≡ record { bits = (unplaced kind.form text xs).bits; fault = None })
    (λ f. (cause : CaptureFault) × IsSameFault f cause
    × (unplaced_whole kind.form text xs ≡ record { bits = (unplaced kind.form text xs).bits; fault = Some cause }))
    → ReadStopsWith kind text reads after start now w xs r
end-finishes {A} {R} {X} kind law text reads after start now w xs (Ok u) sound at read is =
    let bits = subst (λ (c : CaptureOf R). WatchAfter kind start now w (fed kind w c.bits)) (sym is) read.bits in
    let all = all-placed kind law start now w (fed_by kind.form (kind.rest w.analyser)
    (unplaced_whole kind.form text xs))
    sound bits in record {
      at = at;
      clean = ap (λ (c : CaptureOf X). c.fault) all ∙ ap (λ (c : CaptureOf R). c.fault) is;
      bits = subst (λ (c : CaptureOf X). WatchAfter kind start now w c.bits) (sym all) bits;
    }
end-finishes {A} {R} {X} kind law text reads after start now w xs (Err f) sound at read found =
    let bits = subst (λ (c : CaptureOf R). WatchAfter kind start now w (fed kind w c.bits)) (sym found.2) read.bits in
    let all = all-placed kind law start now w (fed_by kind.form (kind.rest w.analyser)
    (unplaced_whole kind.form text xs))
    sound bits in
    faulty-finishes kind text reads after start now w xs f (record {
      cause = found.0;
      answered = found.1;
      found = inr (at, ap (λ (c : CaptureOf X). c.fault) all ∙ ap (λ (c : CaptureOf R). c.fault) found.2);
      bits = (is-clean kind law text start now w xs sound read).bits;
    })
