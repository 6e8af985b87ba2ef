use Rattle.std.proofs.Common.{◌≡◌, ◌-◌, ◌*◌, ◌/◌, ◌≤◌, true, replicate}
use Rattle.bus_bits.specs.Bits.{bits_from}
use Rattle.bus_line.proofs.decoder.time_fill.ones_end.Given as goal

abbrev pub invariant-loop-at : goal.invariant-loop-at
invariant-loop-at l = record {
  begun : l.from ≤ l.at;
  within : l.at ≤ l.end;
  whole : l.at ≡ 8 * (l.at / 8);
  ones : bits_from l.octets l.from (l.at - l.from) ≡ replicate (l.at - l.from) true;
}

abbrev pub decreases-loop-at : goal.decreases-loop-at
decreases-loop-at l = l.end - l.at
