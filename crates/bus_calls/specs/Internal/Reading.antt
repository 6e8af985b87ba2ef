-- What the reading of a capture to its end did.
use Rattle.std.specs.Prelude.{◌≡◌, ℕ, ◌≤◌, Bool, List, length, Option, None, Result, Ok, Err}
use Rattle.std.specs.Io.KnownBytes.{IsAtEnd}
use Rattle.bus_formats.specs.Capture.{CaptureFault}
use Rattle.bus_calls.specs.Captures.{IsSameFault, HasFault}
use Rattle.bus_calls.specs.Internal.Kinds.{KindView}
use Rattle.bus_calls.specs.Internal.Sessions.{capture_so_far, whole_of}
use Rattle.bus_calls.specs.Internal.Watching.{WatchAfter, IsCutOff}
use Rattle.bus_calls.specs.declared.run.CaptureRun.{CaptureRun}
use Rattle.bus_calls.specs.declared.reader.Source.{Source}
use Rattle.bus_calls.specs.declared.reader.Source.TheVariants as source
use Rattle.bus_text.specs.declared.fault.ToolFault.{ToolFault}
use Rattle.bus_text.specs.declared.fault.ToolFault.TheVariants.{Read, ReadsLimit, Write}

-- how many octets of a text were taken
abbrev pub octets_taken : {B : Type 0} → Source B → ℕ
octets_taken (source.Text t) = t.at
octets_taken (source.Packed p) = 0

module _ {A R X B : Type 0} (t : KindView A R X B) where
  -- the octets so far have no fault, and their bits were followed
  pub record IsClean (text : Bool) (start now : Option (List ℕ)) (run : CaptureRun A) (xs : List ℕ) : Type 0 where
    pub clean : (capture_so_far t text run xs).fault ≡ None
    pub bits : WatchAfter t start now run (capture_so_far t text run xs).bits

  -- they are the whole input, and have no fault
  pub record IsWholeInput (text : Bool) (after start now : Option (List ℕ)) (run : CaptureRun A)
      (xs : List ℕ) : Type 0 where
    pub at : IsAtEnd after
    pub clean : (whole_of t text run xs).fault ≡ None
    pub bits : WatchAfter t start now run (whole_of t text run xs).bits

  -- they have a fault, before which all bits were followed
  pub record IsFaulty (text : Bool) (after start now : Option (List ℕ)) (run : CaptureRun A) (xs : List ℕ)
      (fault : ToolFault) : Type 0 where
    pub cause : CaptureFault
    pub answered : IsSameFault fault cause
    pub found : HasFault t.form text (t.rest run.analyser) (t.watch.origin run.analyser) after xs cause
    pub bits : WatchAfter t start now run (capture_so_far t text run xs).bits

  -- how the reading of these octets ended, by so many reads at most, whose reader has `after` left
  abbrev pub ReadStopsWith : Bool → ℕ → Option (List ℕ) → Option (List ℕ) → Option (List ℕ) → CaptureRun A → List ℕ
      → Result (Unit {0}) ToolFault → Type 0
  ReadStopsWith text reads after start now run xs (Ok _) = IsWholeInput text after start now run xs
  ReadStopsWith text reads after start now run xs (Err Read) = IsClean text start now run xs
  ReadStopsWith text reads after start now run xs (Err ReadsLimit) = (reads ≤ length xs) × IsClean text start now run xs
  ReadStopsWith text reads after start now run xs (Err (Write sent)) =
      IsCutOff t start now run (capture_so_far t text run xs).bits sent
  ReadStopsWith text reads after start now run xs (Err fault) = IsFaulty text after start now run xs fault
