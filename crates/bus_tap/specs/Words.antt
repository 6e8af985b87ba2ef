-- A tap in plain numbers, which C's memory may hold.
use Rattle.std.specs.Prelude.{◌≤◌, ◌==◌, not, Option, Some, None, if◌then◌else◌}
use Rattle.bus_bits.specs.Limits.{most_places}
use Rattle.bus_tap.specs.Facts.{AreWithin}
use Rattle.bus_tap.specs.Sampled.{HeldState, SamplerState}
use Rattle.bus_tap.specs.Tapped.{TapState}
use Rattle.bus_tap.specs.declared.words.WireLevel.{WireLevel}
use Rattle.bus_tap.specs.declared.words.TapWords.{TapWords}

-- a channel
abbrev pub held_told : WireLevel → HeldState
held_told w = record { level = not (w.level == 0); others = w.others }

-- the sampler, of which there is none before the first sample
abbrev pub sampler_told : TapWords → Option SamplerState
sampler_told w = if w.begun == 0 then None else Some (record {
  hold = w.hold;
  first_clock = held_told w.first_clock;
  first_bits = held_told w.first_data;
  second_clock = held_told w.second_clock;
  second_bits = held_told w.second_data;
})

-- the tap whose words these are
abbrev pub tap_told : TapWords → TapState
tap_told w = record {
  hold = w.hold;
  jump = w.jump;
  samples = w.samples;
  sampler = sampler_told w;
  first = w.first;
  second = w.second;
}

-- they can be words of a tap: no count is above that of the samples, and no level waits longer than it has to
pub record AreTapWords (w : TapWords) : Type 0 where
  pub samples : w.samples ≤ most_places
  pub first : AreWithin w.first w.samples
  pub second : AreWithin w.second w.samples
  pub first_clock : w.first_clock.others ≤ w.hold
  pub first_data : w.first_data.others ≤ w.hold
  pub second_clock : w.second_clock.others ≤ w.hold
  pub second_data : w.second_data.others ≤ w.hold
