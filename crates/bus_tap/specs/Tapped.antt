-- A recording of wires, what arrives on them, and what is counted.
use Rattle.std.specs.Prelude.{◌≡◌, ℕ, ◌+◌, ◌/◌, ◌%◌, ◌^◌, ◌==◌, Bool, not, false, List, [], ◌++◌, length}
use Rattle.std.specs.Prelude.{if◌then◌else◌, Option, Some, None, MatchOption}
use Rattle.std.specs.Bool.{beq}
use Rattle.bus_line.specs.declared.line.Line.TheVariants.{First, Second}
use Rattle.bus_tap.specs.Sampled.{SamplerState, IsAfterSamples, Timed, timed}
use Rattle.bus_tap.specs.Facts.{AreFacts}
use Rattle.bus_tap.specs.declared.facts.LineFacts.{LineFacts}
use Rattle.bus_tap.specs.declared.wires.Wire.{Wire}
use Rattle.bus_tap.specs.declared.wires.Wires.{Wires}

-- the level of a wire in a sample of a recording: its bit, turned where the wire is inverted; a wire that there is not
-- is low
abbrev pub wire_level : Option Wire → ℕ → Bool
wire_level None sample = false
wire_level (Some w) sample = not (beq (sample / 2 ^ w.number % 2 == 1) w.is_inverted)

-- the levels of the four wires as a sample of four channels
abbrev pub channels : Wires → ℕ → ℕ
channels w sample =
    (if wire_level w.first_clock sample then 1 else 0) + (if wire_level w.first_data sample then 2 else 0)
    + (if wire_level w.second_clock sample then 4 else 0) + (if wire_level w.second_data sample then 8 else 0)

-- what contracts see of a tap
pub record TapState : Type 0 where
  pub hold : ℕ
  pub jump : ℕ
  pub samples : ℕ
  pub sampler : Option SamplerState
  pub first : LineFacts
  pub second : LineFacts

-- a sampler may stand after these samples; before the first there is none
abbrev pub HasSampled : ℕ → Option SamplerState → List ℕ → Type 0
HasSampled hold sampler ss = MatchOption sampler (ss ≡ []) (λ s. (s.hold ≡ hold) × IsAfterSamples s ss)

-- a tap may stand after these samples
pub record IsTapAfter (t : TapState) (ss : List ℕ) : Type 0 where
  pub samples : t.samples ≡ length ss
  pub sampler : HasSampled t.hold t.sampler ss
  pub first : AreFacts t.hold t.jump First t.first ss
  pub second : AreFacts t.hold t.jump Second t.second ss

-- with more samples these bits arrive
pub record AdvancesTap (old : TapState) (more : List ℕ) (ts : List Timed) (new : TapState) : Type 0 where
  pub hold : new.hold ≡ old.hold
  pub jump : new.jump ≡ old.jump
  pub samples : new.samples ≡ old.samples + length more
  pub after : (ss : List ℕ) → IsTapAfter old ss → IsTapAfter new (ss ++ more)
  pub timed : (ss : List ℕ) → IsTapAfter old ss → timed old.hold (ss ++ more) ≡ timed old.hold ss ++ ts
