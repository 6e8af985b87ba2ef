-- Frames among reports, counted one by one.
use Rattle.std.proofs.Common.{◌≡◌, ◌≤◌, ◌<◌, ◌+◌, ◌++◌, List, Bool, ℕ, [], ◌∷◌, take, get_or, length, false, Option}
use Rattle.std.proofs.Common.{Some, None, arith}
use Rattle.std.specs.Option.{option_map, option_to_list}
use Rattle.std.proofs.lemmas.Grind.{common_steps}
use Rattle.bus_line.specs.Report.{Report}
use Rattle.bus_line.specs.Shown.{reported}
use Rattle.bus_line.specs.declared.event.Event.{Event}
use Rattle.bus_examples.specs.Frames.{frame_count}

pub count-append : (rs ss : List Report) → frame_count (rs ++ ss) ≡ frame_count rs + frame_count ss
count-append rs ss = grind (arith, common_steps)

pub at_most_one : (octets : List ℕ) (event : Option Event) →
    frame_count (option_to_list (option_map (reported octets) event)) ≤ 1
at_most_one octets None = grind (arith, common_steps)
at_most_one octets (Some e) = grind (arith, common_steps)

pub next_bit : (bits : List Bool) (i : ℕ) → i < length bits →
    take (i + 1) bits ≡ take i bits ++ get_or bits i false ∷ []
next_bit bits i h = grind (arith, common_steps)
