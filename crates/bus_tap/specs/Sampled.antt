-- Samples of four channels, and the bits that arrive on them.
--
-- A sample is a number. Its bit 0 is the level of the first line's clock, bit 1 that of its data; bits 2 and 3 are
-- those of the second line. Other bits say nothing.
use Rattle.std.specs.Prelude.{◌≡◌, ℕ, zero, suc, ◌-◌, ◌<◌, ◌≤◌, ◌/◌, ◌%◌, ◌==◌, ◌&&◌, not, Bool, true, List, [], ◌∷◌}
use Rattle.std.specs.Prelude.{◌++◌, length, map, if◌then◌else◌, Option, Some, None, slice_index}
use Rattle.std.specs.List.{flat_map}
use Rattle.std.specs.Bool.{beq}
use Rattle.bus_line.specs.Due.{places}
use Rattle.bus_line.specs.declared.line.Line.{Line}
use Rattle.bus_line.specs.declared.line.Line.TheVariants.{First, Second}
use Rattle.bus_tap.specs.Arrival.{Arrival}
use Rattle.bus_tap.specs.declared.sampler.Edges.{Edges}

-- a channel: its level in a sample
abbrev pub Channel : Type 0
Channel = ℕ → Bool

abbrev pub clock_of : Line → Channel
clock_of First sample = sample % 2 == 1
clock_of Second sample = sample / 4 % 2 == 1

abbrev pub data_of : Line → Channel
data_of First sample = sample / 2 % 2 == 1
data_of Second sample = sample / 4 / 2 % 2 == 1

-- its level in sample `i`
abbrev pub level : Channel → List ℕ → ℕ → Bool
level channel ss i = channel (slice_index ss i)

-- it has had this level in `hold + 1` samples in a row, of which sample `i` is the last; what came before the first
-- sample was like that one
abbrev pub HasStood : ℕ → Channel → List ℕ → ℕ → Bool → Type 0
HasStood hold channel ss i l = (j : ℕ) → j ≤ hold → level channel ss (i - j) ≡ l

-- the level that counts at sample `i` is the last one up to there that has stood
pub record IsCounted (hold : ℕ) (channel : Channel) (ss : List ℕ) (i : ℕ) (l : Bool) : Type 0 where
  pub at : ℕ
  pub upto : at ≤ i
  pub stood : HasStood hold channel ss at l
  pub last : (k : ℕ) (m : Bool) → at < k → k ≤ i → HasStood hold channel ss k m → m ≡ l

-- computed: its level in sample `i` has stood
abbrev pub stood : Channel → List ℕ → ℕ → ℕ → Bool
stood channel ss i zero = true
stood channel ss i (suc hold) = beq (level channel ss (i - suc hold)) (level channel ss i) && stood channel ss i hold

-- computed: the level that counts at sample `i`
abbrev pub counted_level : ℕ → Channel → List ℕ → ℕ → Bool
counted_level hold channel ss zero = level channel ss 0
counted_level hold channel ss (suc i) =
    if stood channel ss (suc i) hold then level channel ss (suc i) else counted_level hold channel ss i

-- the level that counts rises at sample `i`
abbrev pub rises : ℕ → Channel → List ℕ → ℕ → Bool
rises hold channel ss i = not (counted_level hold channel ss (i - 1)) && counted_level hold channel ss i

-- where a line's clock rises, a bit of it arrives: the level of its data just before
abbrev pub edge : ℕ → List ℕ → Line → ℕ → List Arrival
edge hold ss line i =
    if rises hold (clock_of line) ss i then (line, counted_level hold (data_of line) ss (i - 1)) ∷ [] else []

-- what arrives in these samples, of two bits in one sample the first line's first
abbrev pub sampled : ℕ → List ℕ → List Arrival
sampled hold ss = flat_map (λ i. edge hold ss First i ++ edge hold ss Second i) (places (length ss))

-- a bit, with the number of its sample
abbrev pub Timed : Type 0
Timed = ℕ × Arrival

abbrev pub with_sample : ℕ → List Arrival → List Timed
with_sample i xs = map (λ x. (i, x)) xs

-- what arrives in these samples, each bit with its own
abbrev pub timed : ℕ → List ℕ → List Timed
timed hold ss =
    flat_map (λ i. with_sample i (edge hold ss First i ++ edge hold ss Second i)) (places (length ss))

-- the bits of a sample, as they are handed out
abbrev pub bit_on : Line → Option Bool → List Arrival
bit_on line None = []
bit_on line (Some bit) = (line, bit) ∷ []

abbrev pub bits_of_edges : Edges → List Arrival
bits_of_edges e = bit_on First e.first ++ bit_on Second e.second

-- no bit arrives
abbrev pub no_edges : Edges
no_edges = record { first = None; second = None }

-- a channel as it is kept: the level that counts, and for how many samples the other level has stood
pub record HeldState : Type 0 where
  pub level : Bool
  pub others : ℕ

-- it may be kept so after these samples
pub record IsHeldAfter (hold : ℕ) (channel : Channel) (h : HeldState) (ss : List ℕ) : Type 0 where
  pub some : 1 ≤ length ss
  pub counts : h.level ≡ counted_level hold channel ss (length ss - 1)
  pub within : h.others ≤ hold
  pub others : (k : ℕ) → k < h.others → level channel ss (length ss - 1 - k) ≡ not h.level
  pub before : level channel ss (length ss - 1 - h.others) ≡ h.level

-- what contracts see of a sampler
pub record SamplerState : Type 0 where
  pub hold : ℕ
  pub first_clock : HeldState
  pub first_bits : HeldState
  pub second_clock : HeldState
  pub second_bits : HeldState

-- it may stand after these samples
pub record IsAfterSamples (s : SamplerState) (ss : List ℕ) : Type 0 where
  pub first_clock : IsHeldAfter s.hold (clock_of First) s.first_clock ss
  pub first_bits : IsHeldAfter s.hold (data_of First) s.first_bits ss
  pub second_clock : IsHeldAfter s.hold (clock_of Second) s.second_clock ss
  pub second_bits : IsHeldAfter s.hold (data_of Second) s.second_bits ss
