-- What a call that lists a capture did to its reader and its writer.
use Rattle.std.specs.Prelude.{◌≡◌, ℕ, ◌≤◌, ◌⊎◌, Bool, true, false, List, [], ◌++◌, length, Option, None, Result, Ok}
use Rattle.std.specs.Prelude.{Err}
use Rattle.std.specs.Io.KnownBytes.{Appends, IsAtEnd}
use Rattle.bus_formats.specs.Capture.{CaptureOf, CaptureFault}
use Rattle.bus_dictionary.specs.Entry.{FrameType}
use Rattle.bus_pairing.specs.Talk.{pending}
use Rattle.bus_calls.specs.Captures.{Form, capture, form_of_one, form_of_two, reports_of_form, reports_seen}
use Rattle.bus_calls.specs.Captures.{whole_capture, form_of_arrivals}
use Rattle.bus_calls.specs.Captures.{IsSameFault, HasFault}
use Rattle.bus_text.specs.Given.{printer_of}
use Rattle.bus_text.specs.Listing.{listing, ending_text}
use Rattle.bus_text.specs.Summary.{summary_of}
use Rattle.bus_text.specs.Put.{TextStopsAt}
use Rattle.bus_calls.specs.Begins.{Begins, Refuses}
use Rattle.bus_text.specs.declared.options.Lines.{Lines}
use Rattle.bus_text.specs.declared.options.Lines.TheVariants.{One, Two, Arrivals}
use Rattle.bus_text.specs.declared.options.Options.{Options}
use Rattle.bus_text.specs.declared.summary.Summary.{Summary}
use Rattle.bus_text.specs.declared.fault.ToolFault.{ToolFault}
use Rattle.bus_text.specs.declared.fault.ToolFault.TheVariants.{Dictionary, Depth, Origin, Memory, Read, ReadsLimit}
use Rattle.bus_text.specs.declared.fault.ToolFault.TheVariants.{Write}

module _ {R X : Type 0} (f : Form R X) where
  -- the bits of the octets so far, and their fault; and of octets that are the whole input
  abbrev pub so_far : Options → List ℕ → CaptureOf X
  so_far o xs = capture f o.text o.rest o.origin xs

  abbrev pub in_all : Options → List ℕ → CaptureOf X
  in_all o xs = whole_capture f o.text o.rest o.origin xs

  -- the listing of bits, without the lines of the end
  abbrev pub listing_of : Options → List FrameType → List X → List ℕ
  listing_of o d b = listing (printer_of o) d (reports_seen f o.origin d b)

  -- the lines of the end: pieces that have begun, and a command that waits
  abbrev pub ending_of : Options → List FrameType → List X → List ℕ
  ending_of o d b = ending_text (printer_of o) (f.ending o.origin b (pending d (reports_of_form f o.origin d b)))

  abbrev pub whole_listing : Options → List FrameType → List X → List ℕ
  whole_listing o d b = listing_of o d b ++ ending_of o d b

-- the options can't be met: nothing was read, and nothing written
pub record DoesNothing (o : Options) (start now : Option (List ℕ)) (xs : List ℕ) (fault : ToolFault) : Type 0 where
  pub why : Refuses o fault
  pub unread : xs ≡ []
  pub unwritten : Appends start now []

module _ {R X : Type 0} (f : Form R X) where
  -- these octets are the whole input and have no fault: their listing was written, with the lines of the end
  pub record ListsAll (o : Options) (d : List FrameType) (after start now : Option (List ℕ)) (xs : List ℕ)
      (s : Summary) : Type 0 where
    pub at : IsAtEnd after
    pub clean : (in_all f o xs).fault ≡ None
    pub out : Appends start now (whole_listing f o d (in_all f o xs).bits)
    pub counts : s ≡ summary_of (reports_seen f o.origin d (in_all f o xs).bits)

  -- these octets have no fault: their listing was written, without the lines of the end
  pub record ListsSoFar (o : Options) (d : List FrameType) (start now : Option (List ℕ)) (xs : List ℕ) : Type 0 where
    pub clean : (so_far f o xs).fault ≡ None
    pub out : Appends start now (listing_of f o d (so_far f o xs).bits)

  -- they have this fault: the listing of the bits before it was written, without the lines of the end
  pub record ListsToFault (o : Options) (d : List FrameType) (after start now : Option (List ℕ)) (xs : List ℕ)
      (fault : ToolFault) : Type 0 where
    pub cause : CaptureFault
    pub answered : IsSameFault fault cause
    pub found : HasFault f o.text o.rest o.origin after xs cause
    pub out : Appends start now (listing_of f o d (so_far f o xs).bits)

  -- what is to be written of these octets: the lines of the end only where they are the whole input and have no fault
  abbrev pub IsListing : Options → List FrameType → Option (List ℕ) → List ℕ → List ℕ → Type 0
  IsListing o d after xs text =
      (text ≡ listing_of f o d (so_far f o xs).bits)
      ⊎ (IsAtEnd after × ((in_all f o xs).fault ≡ None) × (text ≡ whole_listing f o d (in_all f o xs).bits))

  -- the writer was cut off in it
  pub record ListsCut (o : Options) (d : List FrameType) (after start now : Option (List ℕ)) (xs : List ℕ)
      (sent : ℕ) : Type 0 where
    pub text : List ℕ
    pub said : IsListing o d after xs text
    pub cut : TextStopsAt start now text sent

  -- what the call answered, which read the octets xs, leaves its reader with `after`, and led its writer from `start`
  -- to `now`
  abbrev pub ListsBy : Options → Option (List ℕ) → Option (List ℕ) → Option (List ℕ) → List ℕ
      → Result Summary ToolFault → Type 0
  ListsBy o after start now xs (Ok s) = (d : List FrameType) × Begins o d × ListsAll o d after start now xs s
  ListsBy o after start now xs (Err (Dictionary fault)) = DoesNothing o start now xs (Dictionary fault)
  ListsBy o after start now xs (Err Depth) = DoesNothing o start now xs Depth
  ListsBy o after start now xs (Err Origin) = DoesNothing o start now xs Origin
  ListsBy o after start now xs (Err Memory) = DoesNothing o start now xs Memory
  ListsBy o after start now xs (Err Read) = (d : List FrameType) × Begins o d × ListsSoFar o d start now xs
  ListsBy o after start now xs (Err ReadsLimit) =
      (d : List FrameType) × Begins o d × (o.reads ≤ length xs) × ListsSoFar o d start now xs
  ListsBy o after start now xs (Err (Write sent)) =
      (d : List FrameType) × Begins o d × ListsCut o d after start now xs sent
  ListsBy o after start now xs (Err fault) =
      (d : List FrameType) × Begins o d × ListsToFault o d after start now xs fault

-- as it is of one line, of two, or of arrivals
abbrev pub by_lines : Lines → Type 0 → Type 0 → Type 0 → Type 0
by_lines One one two arrivals = one
by_lines Two one two arrivals = two
by_lines Arrivals one two arrivals = arrivals

-- What the call answered that lists a capture of one line, of two, or of arrivals: it read the octets xs, leaves its
-- reader with `after`, and led its writer from `start` to `now`.
abbrev pub Lists : Options → Option (List ℕ) → Option (List ℕ) → Option (List ℕ) → List ℕ → Result Summary ToolFault
    → Type 0
Lists o after start now xs r =
    by_lines o.lines (ListsBy form_of_one o after start now xs r) (ListsBy form_of_two o after start now xs r)
    (ListsBy form_of_arrivals o after start now xs r)
