-- A tap's fields, as they are seen.
use Rattle.std.specs.Prelude.{◌≡◌, ℕ, ◌≤◌, Option, MatchOption, IfSome}
use Rattle.bus_bits.specs.Limits.{most_places}
use Rattle.bus_tap.specs.Tapped.{TapState}
use Rattle.bus_tap.specs.Sampled.{SamplerState}
use Rattle.bus_tap.specs.Internal.Held.{AreHeldAt}
use Rattle.bus_tap.specs.Facts.{AreWithin}
use Rattle.bus_tap.specs.declared.tap.Tap.TheInside.{Inside}

abbrev pub tap_state : Inside → TapState
tap_state t = record {
  hold = t.hold;
  jump = t.jump;
  samples = t.samples;
  sampler = t.sampler;
  first = t.first;
  second = t.second;
}

-- a sampler, if there is one, has this hold
abbrev pub HasHold : ℕ → Option SamplerState → Type 0
HasHold hold sampler = MatchOption sampler (Unit {0}) (λ s. s.hold ≡ hold)

-- there is a sampler, and samples with these levels change nothing of it
abbrev pub IsStill : Option SamplerState → ℕ → Type 0
IsStill sampler sample = MatchOption sampler ⊥ (λ s. AreHeldAt s sample)

-- nothing was counted more often than there are samples
pub record IsTapWithin (t : Inside) : Type 0 where
  pub samples : t.samples ≤ most_places
  pub first : AreWithin t.first t.samples
  pub second : AreWithin t.second t.samples
  pub alike : HasHold t.hold t.sampler
  pub still : IfSome t.still (λ sample. IsStill t.sampler sample)

-- samples with these levels change nothing
abbrev pub IsSettledTap : TapState → ℕ → Type 0
IsSettledTap t sample = IsStill t.sampler sample
