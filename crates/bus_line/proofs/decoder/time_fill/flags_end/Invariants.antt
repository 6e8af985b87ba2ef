use Rattle.std.proofs.Common.{◌-◌, ◌≤◌}
use Rattle.bus_line.specs.Internal.TimeFill.{AreFlags}
use Rattle.bus_line.proofs.decoder.time_fill.flags_end.Given as goal

abbrev pub invariant-loop-at : goal.invariant-loop-at
invariant-loop-at l = record {
  begun : l.from ≤ l.at;
  within : l.at ≤ l.end;
  flags : AreFlags l.octets l.from l.at;
}

abbrev pub decreases-loop-at : goal.decreases-loop-at
decreases-loop-at l = l.end - l.at
