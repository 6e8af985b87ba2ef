use Rattle.std.proofs.Common.{◌-◌, ◌≤◌, ℕ, List, length}
use Rattle.bus_formats.specs.Internal.Packs.{AreParted}
use Rattle.bus_formats.proofs.arrival_planes.pass_spaces.Given as goal

-- the octets so far are skipped
abbrev pub invariant-loop-now : goal.invariant-loop-now
invariant-loop-now l = record {
  parted : (bits lines : List ℕ) → AreParted l.text bits lines l.fn.parting → AreParted l.text bits lines l.now;
  more : l.fn.parting.taken ≤ l.now.taken;
}

abbrev pub decreases-loop-now : goal.decreases-loop-now
decreases-loop-now l = length l.text - l.now.taken
