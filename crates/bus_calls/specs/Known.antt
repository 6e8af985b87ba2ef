-- What a call that lists or checks a capture did, whose reader told all its octets, whatever the cut of its reads.
use Rattle.std.specs.Prelude.{◌≡◌, ℕ, List, [], ◌++◌, take, Option, Some, None, Result, Ok, Err}
use Rattle.std.specs.Io.KnownBytes.{Appends}
use Rattle.bus_formats.specs.Capture.{CaptureFault}
use Rattle.bus_dictionary.specs.Entry.{FrameType}
use Rattle.bus_calls.specs.Captures.{Form, form_of_one, form_of_two, form_of_arrivals, reports_seen, IsSameFault}
use Rattle.bus_text.specs.Summary.{summary_of}
use Rattle.bus_text.specs.Put.{TextStopsAt}
use Rattle.bus_calls.specs.Begins.{Begins, Refuses}
use Rattle.bus_calls.specs.Lists.{in_all, listing_of, ending_of, ListsSoFar, by_lines}
use Rattle.bus_calls.specs.Checks.{check_report, ChecksSoFar}
use Rattle.bus_text.specs.declared.options.Options.{Options}
use Rattle.bus_text.specs.declared.summary.Summary.{Summary}
use Rattle.bus_text.specs.declared.fault.ToolFault.{ToolFault}
use Rattle.bus_text.specs.declared.fault.ToolFault.TheVariants.{Dictionary, Depth, Origin, Memory, Read, ReadsLimit}
use Rattle.bus_text.specs.declared.fault.ToolFault.TheVariants.{Write}

-- the options can't be met, and nothing was written
pub record WritesNothing (o : Options) (start now : Option (List ℕ)) (fault : ToolFault) : Type 0 where
  pub why : Refuses o fault
  pub unwritten : Appends start now []

module _ {R X : Type 0} (f : Form R X) where
  -- the listing of a capture: with the lines of the end where it has no fault
  abbrev pub text_with : Options → List FrameType → List X → Option CaptureFault → List ℕ
  text_with o d b None = listing_of f o d b ++ ending_of f o d b
  text_with o d b (Some cause) = listing_of f o d b

  abbrev pub listing_in_all : Options → List FrameType → List ℕ → List ℕ
  listing_in_all o d all = text_with o d (in_all f o all).bits (in_all f o all).fault

  -- the capture has this fault
  pub record IsItsFault (o : Options) (all : List ℕ) (fault : ToolFault) : Type 0 where
    pub cause : CaptureFault
    pub answered : IsSameFault fault cause
    pub found : (in_all f o all).fault ≡ Some cause

  -- the capture was listed, to its end or its fault
  pub record ListsIt (o : Options) (d : List FrameType) (start now : Option (List ℕ)) (all : List ℕ)
      (s : Summary) : Type 0 where
    pub clean : (in_all f o all).fault ≡ None
    pub out : Appends start now (listing_in_all o d all)
    pub counts : s ≡ summary_of (reports_seen f o.origin d (in_all f o all).bits)

  pub record ListsItsFront (o : Options) (d : List FrameType) (start now : Option (List ℕ))
      (all : List ℕ) : Type 0 where
    pub octets : ℕ
    pub front : ListsSoFar f o d start now (take octets all)

  -- what the listing answered, whose reader had all these octets left, and which led its writer from `start` to `now`
  abbrev pub ListsKnownBy : Options → Option (List ℕ) → Option (List ℕ) → List ℕ → Result Summary ToolFault → Type 0
  ListsKnownBy o start now all (Ok s) = (d : List FrameType) × Begins o d × ListsIt o d start now all s
  ListsKnownBy o start now all (Err (Dictionary fault)) = WritesNothing o start now (Dictionary fault)
  ListsKnownBy o start now all (Err Depth) = WritesNothing o start now Depth
  ListsKnownBy o start now all (Err Origin) = WritesNothing o start now Origin
  ListsKnownBy o start now all (Err Memory) = WritesNothing o start now Memory
  ListsKnownBy o start now all (Err Read) = (d : List FrameType) × Begins o d × ListsItsFront o d start now all
  ListsKnownBy o start now all (Err ReadsLimit) = (d : List FrameType) × Begins o d × ListsItsFront o d start now all
  ListsKnownBy o start now all (Err (Write sent)) =
      (d : List FrameType) × Begins o d × TextStopsAt start now (listing_in_all o d all) sent
  ListsKnownBy o start now all (Err fault) =
      (d : List FrameType) × Begins o d × IsItsFault o all fault × Appends start now (listing_in_all o d all)

  -- the capture was checked to its end
  pub record ChecksIt (o : Options) (d : List FrameType) (start now : Option (List ℕ)) (all : List ℕ)
      (s : Summary) : Type 0 where
    pub clean : (in_all f o all).fault ≡ None
    pub out : Appends start now (check_report f o d (in_all f o all).bits)
    pub counts : s ≡ summary_of (reports_seen f o.origin d (in_all f o all).bits)

  pub record ChecksItsFront (o : Options) (start now : Option (List ℕ)) (all : List ℕ) : Type 0 where
    pub octets : ℕ
    pub front : ChecksSoFar f o start now (take octets all)

  -- the writer was cut off in the report of a capture without fault
  pub record CheckStopsAt (o : Options) (d : List FrameType) (start now : Option (List ℕ)) (all : List ℕ)
      (sent : ℕ) : Type 0 where
    pub clean : (in_all f o all).fault ≡ None
    pub cut : TextStopsAt start now (check_report f o d (in_all f o all).bits) sent

  -- what the check answered, whose reader had all these octets left, and which led its writer from `start` to `now`
  abbrev pub ChecksKnownBy : Options → Option (List ℕ) → Option (List ℕ) → List ℕ → Result Summary ToolFault → Type 0
  ChecksKnownBy o start now all (Ok s) = (d : List FrameType) × Begins o d × ChecksIt o d start now all s
  ChecksKnownBy o start now all (Err (Dictionary fault)) = WritesNothing o start now (Dictionary fault)
  ChecksKnownBy o start now all (Err Depth) = WritesNothing o start now Depth
  ChecksKnownBy o start now all (Err Origin) = WritesNothing o start now Origin
  ChecksKnownBy o start now all (Err Memory) = WritesNothing o start now Memory
  ChecksKnownBy o start now all (Err Read) = (d : List FrameType) × Begins o d × ChecksItsFront o start now all
  ChecksKnownBy o start now all (Err ReadsLimit) = (d : List FrameType) × Begins o d × ChecksItsFront o start now all
  ChecksKnownBy o start now all (Err (Write sent)) =
      (d : List FrameType) × Begins o d × CheckStopsAt o d start now all sent
  ChecksKnownBy o start now all (Err fault) =
      (d : List FrameType) × Begins o d × IsItsFault o all fault × Appends start now []

-- What the listing of a capture of one line, of two, or of arrivals answered, whose reader had all these octets left,
-- and which led its writer from `start` to `now`.
abbrev pub ListsKnown : Options → Option (List ℕ) → Option (List ℕ) → List ℕ → Result Summary ToolFault → Type 0
ListsKnown o start now all r =
    by_lines o.lines (ListsKnownBy form_of_one o start now all r) (ListsKnownBy form_of_two o start now all r)
    (ListsKnownBy form_of_arrivals o start now all r)

-- What the check of one answered.
abbrev pub ChecksKnown : Options → Option (List ℕ) → Option (List ℕ) → List ℕ → Result Summary ToolFault → Type 0
ChecksKnown o start now all r =
    by_lines o.lines (ChecksKnownBy form_of_one o start now all r) (ChecksKnownBy form_of_two o start now all r)
    (ChecksKnownBy form_of_arrivals o start now all r)
