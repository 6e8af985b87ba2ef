use Rattle.std.proofs.Common.{◌≤◌, ◌+◌, [], replicate}
use Rattle.bus_bits.specs.Limits.{most_places}
use Rattle.bus_tap.specs.Tapped.{AdvancesTap}
use Rattle.bus_tap.proofs.tap.Tap.consume_steps.Given as goal

-- the samples so far brought no bit
abbrev pub invariant-loop-taken : goal.invariant-loop-taken
invariant-loop-taken l = record {
  room : l.initial.self.samples + l.count ≤ most_places;
  advances : AdvancesTap l.initial.self (replicate l.taken l.sample) [] l.self;
}
