-- What is known while the octets of a capture are read.
use Rattle.std.specs.Prelude.{◌≡◌, ℕ, ◌<◌, Bool, true, false, List, length, Option, Some, None}
use Rattle.bus_formats.specs.Capture.{CaptureOf, CaptureFault}
use Rattle.bus_calls.specs.Captures.{capture, whole_capture, IsSameFault}
use Rattle.bus_calls.specs.Internal.Kinds.{KindView}
use Rattle.bus_calls.specs.Internal.Watching.{WatchAfter, FeedAfter, IsCutOff}
use Rattle.bus_calls.specs.declared.run.CaptureRun.{CaptureRun}
use Rattle.bus_calls.specs.declared.text.TextCapture.{TextCapture}
use Rattle.bus_calls.specs.declared.packed.PackedCapture.{PackedCapture}
use Rattle.bus_calls.specs.declared.reader.Source.{Source}
use Rattle.bus_calls.specs.declared.reader.Source.TheVariants as source
use Rattle.bus_text.specs.declared.fault.ToolFault.{ToolFault}
use Rattle.bus_text.specs.declared.fault.ToolFault.TheVariants.{Write}

-- whether a capture is text
abbrev pub is_text : {B : Type 0} → Source B → Bool
is_text (source.Text t) = true
is_text (source.Packed p) = false

module _ {A R X B : Type 0} (t : KindView A R X B) where
  -- what the analyser takes of the octets so far, and of octets that are the whole input
  abbrev pub capture_so_far : Bool → CaptureRun A → List ℕ → CaptureOf X
  capture_so_far text run xs = capture t.form text (t.rest run.analyser) (t.watch.origin run.analyser) xs

  abbrev pub whole_of : Bool → CaptureRun A → List ℕ → CaptureOf X
  whole_of text run xs = whole_capture t.form text (t.rest run.analyser) (t.watch.origin run.analyser) xs

  -- these octets were read: the front of a head, or a head and others after it
  abbrev pub IsReadAs : List ℕ → Option B → List ℕ → Type 0
  IsReadAs head None xs = (head ≡ xs) × (length xs < 16)
  IsReadAs head (Some body) xs = t.is_body body xs

  -- these octets were read without fault
  abbrev pub IsReadBy : Source B → List ℕ → Type 0
  IsReadBy (source.Text text) xs = (t.form.text xs).fault ≡ None
  IsReadBy (source.Packed p) xs = IsReadAs p.head.items p.body xs

  -- these octets of a text have no fault, and their bits were followed
  pub record OctetsAfter (start now : Option (List ℕ)) (run : CaptureRun A) (xs : List ℕ) : Type 0 where
    pub clean : (t.form.text xs).fault ≡ None
    pub bits : FeedAfter t start now run (t.form.text xs).bits

  -- these octets of a text were taken, and their bits followed
  pub record TextAfter (start now : Option (List ℕ)) (text : TextCapture) (run : CaptureRun A)
      (xs : List ℕ) : Type 0 where
    pub at : text.at ≡ length xs
    pub clean : (t.form.text xs).fault ≡ None
    pub bits : FeedAfter t start now run (t.form.text xs).bits

  -- these octets of a packed capture begin with a good head, and their bits were followed
  pub record BodyAfter (start now : Option (List ℕ)) (body : B) (run : CaptureRun A) (xs : List ℕ) : Type 0 where
    pub read : t.is_body body xs
    pub bits : FeedAfter t start now run (t.form.packed xs).bits

  -- these octets of a packed capture were taken, and their bits followed
  pub record PackedSourceAfter (start now : Option (List ℕ)) (p : PackedCapture B) (run : CaptureRun A)
      (xs : List ℕ) : Type 0 where
    pub read : IsReadAs p.head.items p.body xs
    pub bits : FeedAfter t start now run (t.form.packed xs).bits

  abbrev pub SourceAfter : Option (List ℕ) → Option (List ℕ) → Source B → CaptureRun A → List ℕ → Type 0
  SourceAfter start now (source.Text text) run xs = TextAfter start now text run xs
  SourceAfter start now (source.Packed p) run xs = PackedSourceAfter start now p run xs

  -- this capture has a fault, and its bits with a place were followed
  pub record Faulty (start now : Option (List ℕ)) (run : CaptureRun A) (c : CaptureOf X)
      (fault : ToolFault) : Type 0 where
    pub cause : CaptureFault
    pub found : c.fault ≡ Some cause
    pub answered : IsSameFault fault cause
    pub bits : WatchAfter t start now run c.bits

  -- why the taking of octets stopped, whose bits are these: their fault, or the writer was cut off in the lines of
  -- some of them
  abbrev pub CaptureStopsWith : Option (List ℕ) → Option (List ℕ) → CaptureRun A → CaptureOf X → ToolFault → Type 0
  CaptureStopsWith start now run c (Write sent) = IsCutOff t start now run c.bits sent
  CaptureStopsWith start now run c fault = Faulty start now run c fault

  abbrev pub SourceStopsWith : Bool → Option (List ℕ) → Option (List ℕ) → CaptureRun A → List ℕ → ToolFault → Type 0
  SourceStopsWith text start now run xs fault = CaptureStopsWith start now run (capture_so_far text run xs) fault
