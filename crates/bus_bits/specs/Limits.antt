-- How many places there are.
use Rattle.std.specs.Prelude.{ℕ, ◌^◌}

-- bits have the places from 0 on, all below this
abbrev pub most_places : ℕ
most_places = 2 ^ 60
