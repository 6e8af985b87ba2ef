use Rattle.std.proofs.Common.{◌≡◌, ◌+◌, ◌-◌, ◌*◌, ◌/◌, ◌%◌, ◌^◌, ◌<◌, ◌==◌, ℕ, slice_index}
use Rattle.bus_tap.specs.Blocks.{has_bit}
use Rattle.bus_tap.proofs.gather.ByWordsGather.gather.Given as goal

-- the bits of so many eights from the end
abbrev pub invariant-loop-taken : goal.invariant-loop-taken
invariant-loop-taken l = record {
  fits : l.word < 256 ^ l.taken;
  bits : (i : ℕ) → i < 8 * l.taken
      → has_bit l.word i ≡ (slice_index l.octets (64 - 8 * l.taken + i) / 2 ^ l.at % 2 == 1);
}
