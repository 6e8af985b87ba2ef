-- How many octets there are in a frame.
use Rattle.std.specs.Prelude.{ℕ, ◌+◌}

-- those of the longest frame, address through information, and of its FCS
abbrev pub most_octets : ℕ
most_octets = 256 + 2
