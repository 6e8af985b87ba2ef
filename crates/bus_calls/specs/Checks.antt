-- What a call that checks a capture did to its reader and its writer.
use Rattle.std.specs.Prelude.{◌≡◌, ℕ, ◌≤◌, List, [], length, Option, None, Result, Ok, Err}
use Rattle.std.specs.Io.KnownBytes.{Appends, IsAtEnd}
use Rattle.bus_formats.specs.Capture.{CaptureFault}
use Rattle.bus_dictionary.specs.Entry.{FrameType}
use Rattle.bus_pairing.specs.History.{history, tally}
use Rattle.bus_calls.specs.Captures.{Form, HasFault, IsSameFault, form_of_one, form_of_two, reports_of_form}
use Rattle.bus_calls.specs.Captures.{reports_seen, form_of_arrivals}
use Rattle.bus_text.specs.CheckText.{check_text}
use Rattle.bus_text.specs.Summary.{summary_of}
use Rattle.bus_text.specs.Put.{TextStopsAt}
use Rattle.bus_calls.specs.Begins.{Begins}
use Rattle.bus_calls.specs.Lists.{so_far, in_all, DoesNothing, by_lines}
use Rattle.bus_text.specs.declared.options.Options.{Options}
use Rattle.bus_text.specs.declared.summary.Summary.{Summary}
use Rattle.bus_text.specs.declared.fault.ToolFault.{ToolFault}
use Rattle.bus_text.specs.declared.fault.ToolFault.TheVariants.{Dictionary, Depth, Origin, Memory, Read, ReadsLimit}
use Rattle.bus_text.specs.declared.fault.ToolFault.TheVariants.{Write}

module _ {R X : Type 0} (f : Form R X) where
  -- the report of bits: how often each thing is seen, the verdicts of each station, and the last frames
  abbrev pub check_report : Options → List FrameType → List X → List ℕ
  check_report o d b =
      check_text f.is_two (summary_of (reports_seen f o.origin d b)) (tally d (reports_of_form f o.origin d b))
      (history o.depth (reports_of_form f o.origin d b))

  -- these octets are the whole input and have no fault
  pub record IsAll (o : Options) (after : Option (List ℕ)) (xs : List ℕ) : Type 0 where
    pub at : IsAtEnd after
    pub clean : (in_all f o xs).fault ≡ None

  -- their report was written
  pub record ChecksAll (o : Options) (d : List FrameType) (after start now : Option (List ℕ)) (xs : List ℕ)
      (s : Summary) : Type 0 where
    pub all : IsAll o after xs
    pub out : Appends start now (check_report o d (in_all f o xs).bits)
    pub counts : s ≡ summary_of (reports_seen f o.origin d (in_all f o xs).bits)

  -- they have no fault so far, and nothing was written
  pub record ChecksSoFar (o : Options) (start now : Option (List ℕ)) (xs : List ℕ) : Type 0 where
    pub clean : (so_far f o xs).fault ≡ None
    pub unwritten : Appends start now []

  -- they have this fault, and nothing was written
  pub record ChecksToFault (o : Options) (after start now : Option (List ℕ)) (xs : List ℕ)
      (fault : ToolFault) : Type 0 where
    pub cause : CaptureFault
    pub answered : IsSameFault fault cause
    pub found : HasFault f o.text o.rest o.origin after xs cause
    pub unwritten : Appends start now []

  -- the writer was cut off in their report
  pub record ChecksCut (o : Options) (d : List FrameType) (after start now : Option (List ℕ)) (xs : List ℕ)
      (sent : ℕ) : Type 0 where
    pub all : IsAll o after xs
    pub cut : TextStopsAt start now (check_report o d (in_all f o xs).bits) sent

  -- what the call answered, which read the octets xs, leaves its reader with `after`, and led its writer from `start`
  -- to `now`
  abbrev pub ChecksBy : Options → Option (List ℕ) → Option (List ℕ) → Option (List ℕ) → List ℕ
      → Result Summary ToolFault → Type 0
  ChecksBy o after start now xs (Ok s) = (d : List FrameType) × Begins o d × ChecksAll o d after start now xs s
  ChecksBy o after start now xs (Err (Dictionary fault)) = DoesNothing o start now xs (Dictionary fault)
  ChecksBy o after start now xs (Err Depth) = DoesNothing o start now xs Depth
  ChecksBy o after start now xs (Err Origin) = DoesNothing o start now xs Origin
  ChecksBy o after start now xs (Err Memory) = DoesNothing o start now xs Memory
  ChecksBy o after start now xs (Err Read) = (d : List FrameType) × Begins o d × ChecksSoFar o start now xs
  ChecksBy o after start now xs (Err ReadsLimit) =
      (d : List FrameType) × Begins o d × (o.reads ≤ length xs) × ChecksSoFar o start now xs
  ChecksBy o after start now xs (Err (Write sent)) =
      (d : List FrameType) × Begins o d × ChecksCut o d after start now xs sent
  ChecksBy o after start now xs (Err fault) =
      (d : List FrameType) × Begins o d × ChecksToFault o after start now xs fault

-- What the call answered that checks a capture of one line, of two, or of arrivals: it read the octets xs, leaves its
-- reader with `after`, and led its writer from `start` to `now`.
abbrev pub Checks : Options → Option (List ℕ) → Option (List ℕ) → Option (List ℕ) → List ℕ → Result Summary ToolFault
    → Type 0
Checks o after start now xs r =
    by_lines o.lines (ChecksBy form_of_one o after start now xs r) (ChecksBy form_of_two o after start now xs r)
    (ChecksBy form_of_arrivals o after start now xs r)
