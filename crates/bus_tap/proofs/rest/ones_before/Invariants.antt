use Rattle.std.proofs.Common.{◌≡◌, ◌+◌, ◌-◌, ◌≤◌}
use Rattle.bus_line.specs.Run.{ones_after}
use Rattle.bus_line.specs.declared.line.Line.TheVariants.{Second}
use Rattle.bus_tap.specs.Arrival.{arrivals_from, own}
use Rattle.bus_tap.proofs.rest.ones_before.Given as goal

-- the arrivals behind have so many bits of the second line, all of them 1s
abbrev pub invariant-loop-at : goal.invariant-loop-at
invariant-loop-at l = record {
  within : (l.fn.from ≤ l.at) × (l.at ≤ l.fn.past);
  few : l.ones ≤ 15;
  ones : ones_after l.fn.others (own Second (arrivals_from l.fn.bits l.fn.lines l.fn.from (l.fn.past - l.fn.from)))
      ≡ ones_after l.fn.others (own Second (arrivals_from l.fn.bits l.fn.lines l.fn.from (l.at - l.fn.from)))
      + l.ones;
}

abbrev pub decreases-loop-at : goal.decreases-loop-at
decreases-loop-at l = l.at
