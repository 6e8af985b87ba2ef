-- The report of a check.
use Rattle.std.specs.Prelude.{ℕ, ◌==◌, ◌&&◌, Bool, List, [], ◌++◌, codes, decimal, if◌then◌else◌, Option, Some, None}
use Rattle.std.specs.List.{flat_map}
use Rattle.bus_line.specs.Due.{places}
use Rattle.bus_pairing.specs.History.{KeptFrame}
use Rattle.bus_pairing.specs.declared.counts.Counts.{Counts}
use Rattle.bus_bits.specs.declared.span.Span.{Span}
use Rattle.bus_line.specs.declared.line.Line.{Line}
use Rattle.bus_text.specs.Listing.{hex_of, line_number, span_text}
use Rattle.bus_text.specs.declared.summary.Summary.{Summary}

abbrev pub count_text : List ℕ → ℕ → List ℕ
count_text word n = word ++ codes " " ++ decimal n ++ codes "\n"

-- ten counts, a line for each
abbrev pub summary_text : Summary → List ℕ
summary_text s =
    count_text (codes "frames") s.frames ++ count_text (codes "damaged") s.damaged
    ++ count_text (codes "overlong") s.overlong
    ++ count_text (codes "aborts") s.aborts ++ count_text (codes "idles") s.idles
    ++ count_text (codes "strays") s.strays
    ++ count_text (codes "answered") s.answered ++ count_text (codes "missing") s.missing
    ++ count_text (codes "spoilt") s.spoilt
    ++ count_text (codes "late") s.late

abbrev pub tally_line : ℕ → Counts → List ℕ
tally_line station c =
    codes "station " ++ decimal station ++ codes " answered " ++ decimal c.answered ++ codes " missing "
    ++ decimal c.missing
    ++ codes " spoilt " ++ decimal c.spoilt ++ codes " late " ++ decimal c.late ++ codes "\n"

abbrev pub has_none : Counts → Bool
has_none c = ((c.answered == 0 && c.missing == 0) && c.spoilt == 0) && c.late == 0

-- a line for a station with a verdict
abbrev pub tally_text : ℕ → Counts → List ℕ
tally_text station c = if has_none c then [] else tally_line station c

-- for each of the first `n` stations
unfoldable pub tallies_text : (ℕ → Counts) → ℕ → List ℕ
tallies_text tally n = flat_map (λ station. tally_text station (tally station)) (places n)

-- the line of a frame that is kept
abbrev pub last_text : Option Line → Span → List ℕ → List ℕ
last_text line span octets = codes "last " ++ line_number line ++ span_text span ++ hex_of octets ++ codes "\n"

-- with the number of its line, where there are two
abbrev pub kept_text : Bool → KeptFrame → List ℕ
kept_text two k = last_text (if two then Some k.line else None) k.span k.octets

abbrev pub history_text : Bool → List KeptFrame → List ℕ
history_text two history = flat_map (kept_text two) history

-- the counts, the verdicts of each station by rising number, and the history, the oldest first, of one line or of two
abbrev pub check_text : Bool → Summary → (ℕ → Counts) → List KeptFrame → List ℕ
check_text two summary tally history = summary_text summary ++ tallies_text tally 256 ++ history_text two history
