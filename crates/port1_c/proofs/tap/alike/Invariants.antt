use Rattle.std.proofs.Common.{◌≡◌, ◌+◌, ◌-◌, ◌<◌, ◌≤◌, ℕ}
use Rattle.bus_tap.specs.Recorded.{record_at}
use Rattle.port1_c.proofs.tap.alike.Given as goal

-- so many samples are the same
abbrev pub invariant-loop-count : goal.invariant-loop-count
invariant-loop-count l = record {
  some : 1 ≤ l.count;
  within : l.at + l.count ≤ l.end;
  same : (k : ℕ) → k < l.count → record_at l.width l.octets (l.at + k) ≡ l.sample;
}

abbrev pub decreases-loop-count : goal.decreases-loop-count
decreases-loop-count l = l.end - l.at - l.count
