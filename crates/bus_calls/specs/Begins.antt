-- What the options of a call lead to before its capture is read.
use Rattle.std.specs.Prelude.{◌≡◌, ◌<◌, ◌≤◌, ◌⊎◌, List, Ok, Err}
use Rattle.bus_bits.specs.Limits.{most_places}
use Rattle.bus_dictionary.specs.Entry.{FrameType}
use Rattle.bus_text.specs.Given.{dictionary_text}
use Rattle.bus_text.specs.Show.{given_dictionary}
use Rattle.bus_text.specs.declared.options.Options.{Options}
use Rattle.bus_text.specs.declared.fault.ToolFault.{ToolFault}
use Rattle.bus_text.specs.declared.fault.ToolFault.TheVariants.{Dictionary, Depth, Origin, Memory}

-- they can be met, by this dictionary
pub record Begins (o : Options) (d : List FrameType) : Type 0 where
  pub dictionary : given_dictionary (dictionary_text o) ≡ Ok d
  pub low : 1 ≤ o.depth
  pub high : o.depth ≤ 1024
  pub places : o.origin ≤ most_places

-- they can't: the dictionary, the depth and the origin are judged in this order
abbrev pub Refuses : Options → ToolFault → Type 0
Refuses o (Dictionary fault) = given_dictionary (dictionary_text o) ≡ Err fault
Refuses o Depth =
    (d : List FrameType) × (given_dictionary (dictionary_text o) ≡ Ok d) × ((o.depth < 1) ⊎ (1024 < o.depth))
Refuses o Origin =
    (d : List FrameType) × (given_dictionary (dictionary_text o) ≡ Ok d) × (1 ≤ o.depth) × (o.depth ≤ 1024)
    × (most_places < o.origin)
Refuses o Memory = Unit {0}
Refuses o fault = ⊥
