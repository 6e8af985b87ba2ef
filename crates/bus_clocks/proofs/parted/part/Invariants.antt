use Rattle.std.proofs.Common.{◌-◌, ◌≤◌}
use Rattle.bus_tap.specs.Arrival.{arrivals_from}
use Rattle.bus_clocks.specs.Internal.Parts.{Parts}
use Rattle.bus_clocks.proofs.parted.part.Given as goal

-- the arrivals so far are parted
abbrev pub invariant-loop-taken : goal.invariant-loop-taken
invariant-loop-taken l = record {
  within : l.taken ≤ l.fn.count;
  parts : Parts (arrivals_from l.fn.bits l.fn.lines l.fn.from l.taken) l.parted;
}

abbrev pub decreases-loop-taken : goal.decreases-loop-taken
decreases-loop-taken l = l.fn.count - l.taken
