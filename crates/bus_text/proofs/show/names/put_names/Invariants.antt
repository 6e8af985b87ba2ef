use Rattle.std.proofs.Common.{◌≡◌, ◌+◌, ◌*◌, ◌≤◌, List, ℕ, Option, ◌++◌, length}
use Rattle.std.specs.List.{flat_map}
use Rattle.std.specs.Io.KnownBytes.{Appends}
use Rattle.bus_dictionary.specs.BitName.{NamedBit}
use Rattle.bus_text.specs.Show.{name_text}
use Rattle.bus_text.proofs.show.names.put_names.Given as goal

-- these names are done, and their lines went out after what was there before
abbrev pub invariant-loop-name : goal.invariant-loop-name
invariant-loop-name g l =
    (goal.iterator-loop-name g).can_next l.name-iterator
    × (goal.iterator-loop-name g).is_finite l.name-iterator
    × ((done : List NamedBit)
    × (done ++ l.name-iterator ≡ l.fn.names)
    × (l.written ≤ l.sent + 640 * length done)
    × ((start : Option (List ℕ)) (before : List ℕ) → Appends start (g.W.Write.contents l.initial.w) before →
    l.sent ≡ length before
    → Appends start (g.W.Write.contents l.w) (before ++ flat_map name_text done)
    × (l.written ≡ length (before ++ flat_map name_text done))))
