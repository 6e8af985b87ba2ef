use Rattle.std.proofs.Common.{◌≡◌, ◌-◌, length}
use Rattle.bus_formats.specs.Internal.Packs.{AreParted}
use Rattle.bus_formats.proofs.text_arrivals.TextArrivals.part.Given as goal

-- the octets so far are packed
abbrev pub invariant-loop-now : goal.invariant-loop-now
invariant-loop-now l = record {
  parted : AreParted l.text l.bits l.lines l.now;
  bits : length l.bits ≡ length l.initial.bits;
  lines : length l.lines ≡ length l.initial.lines;
}

abbrev pub decreases-loop-now : goal.decreases-loop-now
decreases-loop-now l = length l.text - l.now.taken
