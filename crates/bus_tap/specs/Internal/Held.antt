-- A sampler's fields, as they are seen, and a channel with one sample more.
use Rattle.std.specs.Prelude.{◌≡◌, ℕ, ◌+◌, ◌≤◌, ◌==◌, ◌&&◌, not, Bool, Option, Some, None, if◌then◌else◌}
use Rattle.std.specs.Bool.{beq}
use Rattle.bus_tap.specs.Sampled.{Channel, HeldState, SamplerState, clock_of, data_of}
use Rattle.bus_line.specs.declared.line.Line.{Line}
use Rattle.bus_line.specs.declared.line.Line.TheVariants.{First, Second}
use Rattle.bus_tap.specs.declared.facts.Levels.{Levels}
use Rattle.bus_tap.specs.declared.sampler.HeldLevel.{HeldLevel}
use Rattle.bus_tap.specs.declared.sampler.Sampler.TheInside.{Inside}

abbrev pub held_state : HeldLevel → HeldState
held_state h = record { level = h.level; others = h.others }

abbrev pub sampler_state : Inside → SamplerState
sampler_state s = record {
  hold = s.hold;
  first_clock = held_state s.first.clock;
  first_bits = held_state s.first.bits;
  second_clock = held_state s.second.clock;
  second_bits = held_state s.second.bits;
}

-- no level waits longer than it has to
pub record AreHeldWithin (s : Inside) : Type 0 where
  pub first_clock : s.first.clock.others ≤ s.hold
  pub first_bits : s.first.bits.others ≤ s.hold
  pub second_clock : s.second.clock.others ≤ s.hold
  pub second_bits : s.second.bits.others ≤ s.hold

-- a channel, with a sample of this level more
abbrev pub next_state : ℕ → HeldState → Bool → HeldState
next_state hold h sample =
    if beq sample h.level then record { level = sample; others = 0 } else
    (if h.others == hold then record { level = sample; others = 0 } else
    record { level = h.level; others = h.others + 1 })

-- the channels of a line, as they are kept
abbrev pub held_clock : SamplerState → Line → HeldState
held_clock s First = s.first_clock
held_clock s Second = s.second_clock

abbrev pub held_data : SamplerState → Line → HeldState
held_data s First = s.first_bits
held_data s Second = s.second_bits

-- a channel has the level that it has in this sample, and no other is waited for
abbrev pub IsHeldAt : Channel → HeldState → ℕ → Type 0
IsHeldAt channel h sample = h ≡ record { level = channel sample; others = 0 }

-- so have all four
pub record AreHeldAt (s : SamplerState) (sample : ℕ) : Type 0 where
  pub first_clock : IsHeldAt (clock_of First) s.first_clock sample
  pub first_bits : IsHeldAt (data_of First) s.first_bits sample
  pub second_clock : IsHeldAt (clock_of Second) s.second_clock sample
  pub second_bits : IsHeldAt (data_of Second) s.second_bits sample

-- the levels of a line in a sample
abbrev pub levels_in : Line → ℕ → Levels
levels_in line sample = record { clock = clock_of line sample; bits = data_of line sample }

-- the bit of a line where all levels of sample `s` count after those of sample `b`
abbrev pub bit_after : Line → ℕ → ℕ → Option Bool
bit_after line b s = if not (clock_of line b) && clock_of line s then Some (data_of line b) else None
