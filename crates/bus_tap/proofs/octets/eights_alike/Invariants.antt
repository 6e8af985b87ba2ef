use Rattle.std.proofs.Common.{◌≡◌, ◌-◌, ◌≤◌, take, replicate, length}
use Rattle.bus_tap.proofs.octets.eights_alike.Given as goal

-- the octets so far are the same
abbrev pub invariant-loop-count : goal.invariant-loop-count
invariant-loop-count l = record {
  within : l.count ≤ length l.octets;
  same : take l.count l.octets ≡ replicate l.count l.first;
}

abbrev pub decreases-loop-count : goal.decreases-loop-count
decreases-loop-count l = length l.octets - l.count
