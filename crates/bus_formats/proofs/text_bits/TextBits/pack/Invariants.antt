use Rattle.std.proofs.Common.{◌≡◌, ◌-◌, length}
use Rattle.bus_formats.specs.Internal.Packs.{IsPacked}
use Rattle.bus_formats.proofs.text_bits.TextBits.pack.Given as goal

-- the octets so far are packed
abbrev pub invariant-loop-now : goal.invariant-loop-now
invariant-loop-now l = record {
  packed : IsPacked l.text l.block l.now;
  len : length l.block ≡ length l.initial.block;
}

abbrev pub decreases-loop-now : goal.decreases-loop-now
decreases-loop-now l = length l.text - l.now.taken
