use Rattle.std.proofs.Common.{◌≡◌, ◌-◌, ◌≤◌, take, replicate, length}
use Rattle.std.specs.Prelude.{slice_index}
use Rattle.bus_tap.proofs.octets.alike.Given as goal

-- the octets so far are the same
abbrev pub invariant-loop-count : goal.invariant-loop-count
invariant-loop-count l = record {
  within : l.count ≤ length l.octets;
  same : take l.count l.octets ≡ replicate l.count (slice_index l.octets 0);
}

abbrev pub decreases-loop-count : goal.decreases-loop-count
decreases-loop-count l = length l.octets - l.count
