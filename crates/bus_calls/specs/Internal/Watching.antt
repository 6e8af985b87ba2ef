-- What is known while the bits of a capture are followed, or its pairs of bits.
use Rattle.std.specs.Prelude.{◌≡◌, ℕ, ◌+◌, ◌-◌, ◌*◌, ◌<◌, ◌≤◌, List, [], ◌++◌, length, take, Option, Some, None}
use Rattle.arrayvec.specs.ArrayVec.{array_vec_len}
use Rattle.bus_bits.specs.Limits.{most_places}
use Rattle.bus_dictionary.specs.Entry.{FrameType}
use Rattle.bus_dictionary.specs.Dictionary.{longest_of}
use Rattle.bus_line.specs.LineReport.{LineReport}
use Rattle.bus_pairing.specs.Seen.{SeenReport}
use Rattle.bus_pairing.specs.Talk.{pending}
use Rattle.bus_pairing.specs.History.{history, tally}
use Rattle.bus_watch.specs.Watch.{Watch, seen_by}
use Rattle.bus_text.specs.Listing.{Line, listing, ending_text}
use Rattle.bus_text.specs.Summary.{summary_of}
use Rattle.bus_text.specs.Counting.{IsFew}
use Rattle.bus_text.specs.Pages.{Pages}
use Rattle.bus_text.specs.Put.{TextStopsAt}
use Rattle.bus_text.specs.CheckText.{check_text}
use Rattle.bus_text.specs.declared.printer.Printer.{Printer}
use Rattle.bus_calls.specs.Internal.Kinds.{KindView}
use Rattle.bus_calls.specs.declared.run.CaptureRun.{CaptureRun}
use Rattle.bus_text.specs.declared.fault.ToolFault.{ToolFault}
use Rattle.bus_text.specs.declared.fault.ToolFault.TheVariants.{PlaceLimit, Write}

-- the lines of what is seen; without a printer there are none
abbrev pub printed : Option Printer → List FrameType → List SeenReport → List ℕ
printed None d seen = []
printed (Some p) d seen = listing p d seen

-- the lines of the end
abbrev pub ended : Option Printer → List Line → List ℕ
ended None lines = []
ended (Some p) lines = ending_text p lines

-- the writer was cut off in this text
abbrev pub IsCutIn : Option (List ℕ) → Option (List ℕ) → List ℕ → ToolFault → Type 0
IsCutIn start now text (Write sent) = TextStopsAt start now text sent
IsCutIn start now text fault = ⊥

-- of what has the place `origin` first, that with a place below 2^60
abbrev pub within : {X : Type 0} → ℕ → List X → List X
within origin b = take (most_places - origin) b

-- the reports of these
abbrev pub reports_by : {A X : Type 0} → Watch A X → A → List X → List LineReport
reports_by w a b = w.reports (w.origin a) (longest_of (w.dictionary a)) b

module _ {A R X B : Type 0} (t : KindView A R X B) where
  -- the place bounds the counts, and the octets of the lines: at a place there are two reports at most
  pub record IsSound (run : CaptureRun A) : Type 0 where
    pub places : t.watch.place run.analyser ≤ most_places
    pub counts : IsFew (2 * t.watch.place run.analyser) run.reporter.summary
    pub octets : run.reporter.page.written + array_vec_len run.reporter.page.text ≤ 2048 * t.watch.place run.analyser

  -- the lines of these bits
  abbrev pub lines : CaptureRun A → List X → List ℕ
  lines run b = printed run.reporter.printer (t.watch.dictionary run.analyser) (seen_by t.watch run.analyser b)

  -- the lines of the end after these bits
  abbrev pub last_lines : CaptureRun A → List X → List ℕ
  last_lines run b =
      ended run.reporter.printer (t.form.ending (t.watch.origin run.analyser) b
      (pending (t.watch.dictionary run.analyser) (reports_by t.watch run.analyser b)))

  -- the report of these bits
  abbrev pub report_text : CaptureRun A → List X → List ℕ
  report_text run b =
      check_text t.form.is_two run.reporter.summary
      (tally (t.watch.dictionary run.analyser) (reports_by t.watch run.analyser b))
      (history (t.watch.depth run.analyser) (reports_by t.watch run.analyser b))

  -- these bits were followed
  pub record WatchAfter (start now : Option (List ℕ)) (run : CaptureRun A) (b : List X) : Type 0 where
    pub is_after : t.watch.is_after run.analyser b
    pub counts : run.reporter.summary ≡ summary_of (seen_by t.watch run.analyser b)
    pub page : Pages start now run.reporter.page.text run.reporter.page.written (lines run b)

  -- what stays the same
  pub record IsSame (old new : CaptureRun A) : Type 0 where
    pub printer : new.reporter.printer ≡ old.reporter.printer
    pub dictionary : t.watch.dictionary new.analyser ≡ t.watch.dictionary old.analyser
    pub depth : t.watch.depth new.analyser ≡ t.watch.depth old.analyser
    pub origin : t.watch.origin new.analyser ≡ t.watch.origin old.analyser
    pub rest : t.rest new.analyser ≡ t.rest old.analyser

  -- the writer was cut off in the lines of the front of some bits
  pub record IsCutOff (start now : Option (List ℕ)) (run : CaptureRun A) (bits : List X) (sent : ℕ) : Type 0 where
    pub front : List X
    pub more : List X
    pub all : bits ≡ front ++ more
    pub cut : TextStopsAt start now (lines run front) sent
    pub short : sent < length (lines run front)

  -- why the following of these bits stopped: only those with a place were followed, or the writer was cut off
  abbrev pub WatchStopsWith : Option (List ℕ) → Option (List ℕ) → CaptureRun A → List X → ToolFault → Type 0
  WatchStopsWith start now run b PlaceLimit =
      (most_places - t.watch.origin run.analyser < length b)
      × WatchAfter start now run (within (t.watch.origin run.analyser) b)
  WatchStopsWith start now run b (Write sent) = IsCutOff start now run (within (t.watch.origin run.analyser) b) sent
  WatchStopsWith start now run b fault = ⊥

  -- what the analyser takes of these symbols
  abbrev pub fed : CaptureRun A → List R → List X
  fed run b = t.form.fed (t.rest run.analyser) b

  -- these symbols came: what the analyser takes of them was followed
  pub record FeedAfter (start now : Option (List ℕ)) (run : CaptureRun A) (b : List R) : Type 0 where
    pub rule : t.is_fed run.analyser b
    pub bits : WatchAfter start now run (fed run b)

  -- why the following of what the analyser takes of them stopped
  abbrev pub FeedStopsWith : Option (List ℕ) → Option (List ℕ) → CaptureRun A → List R → ToolFault → Type 0
  FeedStopsWith start now run b fault = WatchStopsWith start now run (fed run b) fault
