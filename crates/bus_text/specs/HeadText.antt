-- What the head of a frame says, in words.
use Rattle.std.specs.Prelude.{ℕ, List, [], ◌++◌, decimal, codes, Option, Some, None}
use Rattle.bus_dictionary.specs.Entry.{FrameType}
use Rattle.bus_dictionary.specs.Dictionary.{entry_at}
use Rattle.bus_dictionary.specs.declared.standing.Standing.{Standing}
use Rattle.bus_dictionary.specs.declared.standing.Standing.TheVariants.{OtherControl, Untyped, Unknown, WrongLength}
use Rattle.bus_dictionary.specs.declared.standing.Standing.TheVariants.{Known}

abbrev pub name_of : Option FrameType → List ℕ
name_of None = []
name_of (Some e) = e.name

-- a station and a frame type
abbrev pub station_text : ℕ → ℕ → List ℕ
station_text station ftype = codes "station " ++ decimal station ++ codes " type " ++ decimal ftype

abbrev pub typed_text : ℕ → ℕ → List ℕ → List ℕ
typed_text station ftype what = station_text station ftype ++ codes " " ++ what

abbrev pub head_text : Standing → List FrameType → List ℕ
head_text (Known station ftype) d = typed_text station ftype (name_of (entry_at ftype d))
head_text (Unknown station ftype) d = typed_text station ftype (codes "unknown")
head_text (WrongLength station ftype) d = typed_text station ftype (codes "length")
head_text (OtherControl station control) d = codes "control " ++ decimal control
head_text (Untyped station) d = codes "untyped"
