use Rattle.std.proofs.Common.{◌≡◌, ◌<◌, ℕ, length}
use Rattle.std.specs.Prelude.{slice_index}
use Rattle.bus_tap.specs.Tapped.{channels}
use Rattle.bus_sample.proofs.reader.levels_of.Given as goal

-- the levels of the samples so far
abbrev pub invariant-loop-sample : goal.invariant-loop-sample
invariant-loop-sample l = record {
  all : length l.levels ≡ 256;
  levels : (k : ℕ) → k < l.sample → slice_index l.levels k ≡ channels l.wires k;
}
