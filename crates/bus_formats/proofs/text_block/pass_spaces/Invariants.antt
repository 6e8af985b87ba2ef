use Rattle.std.proofs.Common.{◌≡◌, ◌-◌, ◌≤◌, ℕ, List, length}
use Rattle.bus_formats.specs.Internal.Packs.{IsPacked}
use Rattle.bus_formats.proofs.text_block.pass_spaces.Given as goal

-- the octets so far are skipped
abbrev pub invariant-loop-now : goal.invariant-loop-now
invariant-loop-now l = record {
  packed : (block : List ℕ) → IsPacked l.text block l.fn.packing → IsPacked l.text block l.now;
  filled : l.now.filled ≡ l.fn.packing.filled;
  more : l.fn.packing.taken ≤ l.now.taken;
}

abbrev pub decreases-loop-now : goal.decreases-loop-now
decreases-loop-now l = length l.text - l.now.taken
