-- The lines of facts.
use Rattle.std.specs.Prelude.{ℕ, Bool, List, ◌++◌, codes, decimal, if◌then◌else◌}
use Rattle.bus_tap.specs.declared.facts.Occurrences.{Occurrences}
use Rattle.bus_tap.specs.declared.facts.Gap.{Gap}
use Rattle.bus_tap.specs.declared.facts.TapFacts.{TapFacts}

abbrev pub number_line : List ℕ → ℕ → List ℕ
number_line name n = name ++ codes " " ++ decimal n ++ codes "\n"

abbrev pub level_line : List ℕ → Bool → List ℕ
level_line name level = number_line name (if level then 1 else 0)

-- how often something is so, its first place and its last
abbrev pub occurrences_line : List ℕ → Occurrences → List ℕ
occurrences_line name o =
    name ++ codes " " ++ decimal o.count ++ codes " " ++ decimal o.first ++ codes " " ++ decimal o.last ++ codes "\n"

-- a distance, and where it begins
abbrev pub gap_line : List ℕ → Gap → List ℕ
gap_line name g = name ++ codes " " ++ decimal g.length ++ codes " " ++ decimal g.from ++ codes "\n"

-- all facts, a line for each
abbrev pub facts_text : TapFacts → List ℕ
facts_text f =
    number_line (codes "samples") f.samples
    ++ level_line (codes "txc-level") f.first_levels.clock ++ level_line (codes "txd-level") f.first_levels.bits
    ++ level_line (codes "rxc-level") f.second_levels.clock ++ level_line (codes "rxd-level") f.second_levels.bits
    ++ occurrences_line (codes "txc-changes") f.first.clock_changes
    ++ occurrences_line (codes "txd-changes") f.first.data_changes
    ++ occurrences_line (codes "rxc-changes") f.second.clock_changes
    ++ occurrences_line (codes "rxd-changes") f.second.data_changes
    ++ occurrences_line (codes "first-bits") f.first.bits ++ occurrences_line (codes "second-bits") f.second.bits
    ++ gap_line (codes "first-gap") f.first.gap ++ gap_line (codes "second-gap") f.second.gap
    ++ occurrences_line (codes "txd-high") f.first.data_changes_high
    ++ occurrences_line (codes "rxd-high") f.second.data_changes_high
    ++ occurrences_line (codes "first-jumps") f.first.jumps ++ occurrences_line (codes "second-jumps") f.second.jumps
