-- Kinds that are neither a frame nor an idle.
use Rattle.std.specs.Prelude.{Bool, true, false}
use Rattle.bus_line.specs.Report.{Kind, Frame, Idle}

abbrev pub is_damage : Kind → Bool
is_damage (Frame octets) = false
is_damage Idle = false
is_damage kind = true
