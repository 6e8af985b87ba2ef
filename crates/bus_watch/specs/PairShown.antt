-- What an analyser of two lines hands out, as it is seen.
use Rattle.std.specs.Prelude.{List, ◌++◌, Option, Some, None}
use Rattle.std.specs.Option.{option_map, option_to_list}
use Rattle.bus_pairing.specs.Seen.{SeenReport}
use Rattle.bus_pairing.specs.Shown.{found_on, shown_on}
use Rattle.bus_pairing.specs.declared.seen.Seen.{Seen}
use Rattle.bus_watch.specs.Pairs.{PairState}
use Rattle.bus_watch.specs.declared.pair.analyser.PairFound.{PairFound}
use Rattle.bus_watch.specs.declared.pair.seen.PairSeen.{PairSeen}
use Rattle.bus_line.specs.declared.line.Line.{Line}
use Rattle.bus_line.specs.declared.line.Line.TheVariants.{First, Second}

-- on a line
abbrev pub shown_option_on : Line → Option Seen → Option SeenReport
shown_option_on line None = None
shown_option_on line (Some s) = Some (shown_on (Some line) s)

-- on both, the first line's first
abbrev pub shown_pair : PairSeen → List SeenReport
shown_pair p = option_to_list (shown_option_on First p.first) ++ option_to_list (shown_option_on Second p.second)

-- what was found at a pair, and frames' octets, as they are seen: the first line's first
abbrev pub seen_of_pair : {C : Type 0} → PairState C → PairFound → List SeenReport
seen_of_pair a found =
    option_to_list (option_map (found_on (Some First) a.first.octets) found.first)
    ++ option_to_list (option_map (found_on (Some Second) a.second.octets) found.second)
