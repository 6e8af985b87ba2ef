-- What counts in a block of 64 samples.
use Rattle.std.specs.Prelude.{◌≡◌, ℕ, ◌+◌, ◌-◌, ◌<◌, ◌&&◌, not, Bool, List, ◌++◌, length, map, if◌then◌else◌, Option}
use Rattle.std.specs.Prelude.{Some, None}
use Rattle.std.specs.Bool.{beq}
use Rattle.bus_tap.specs.Blocks.{has_bit}
use Rattle.bus_tap.specs.Facts.{AreFactsOf, IsTallied, IsLongest, jumps, places_where, spacing}
use Rattle.bus_tap.specs.Sampled.{Channel, clock_of, counted_level, data_of}
use Rattle.bus_line.specs.declared.line.Line.TheVariants.{First, Second}
use Rattle.bus_tap.specs.declared.block.CountedBlock.{CountedBlock}
use Rattle.bus_tap.specs.declared.block.CountedLine.{CountedLine}
use Rattle.bus_tap.specs.declared.facts.LineFacts.{LineFacts}

-- a word has the levels of a channel that count at these samples, or just before them
abbrev pub HasCounted : ℕ → ℕ → Channel → List ℕ → List ℕ → Type 0
HasCounted word hold channel ss more =
    (i : ℕ) → i < 64 → has_bit word i ≡ counted_level hold channel (ss ++ more) (length ss + i)

abbrev pub HadCounted : ℕ → ℕ → Channel → List ℕ → List ℕ → Type 0
HadCounted word hold channel ss more =
    (i : ℕ) → i < 64 → has_bit word i ≡ counted_level hold channel (ss ++ more) (length ss + i - 1)

-- so it is with the channels of a line
pub record CountsLine (hold : ℕ) (clock bits : Channel) (ss more : List ℕ) (c : CountedLine) : Type 0 where
  pub clock_before : HadCounted c.before.clock hold clock ss more
  pub bits_before : HadCounted c.before.bits hold bits ss more
  pub clock_after : HasCounted c.after.clock hold clock ss more
  pub bits_after : HasCounted c.after.bits hold bits ss more

-- and with those of both
abbrev pub AreCounted : ℕ → List ℕ → List ℕ → CountedBlock → Type 0
AreCounted hold ss more c =
    CountsLine hold (clock_of First) (data_of First) ss more c.first
    × CountsLine hold (clock_of Second) (data_of Second) ss more c.second

-- where the levels of a line change
abbrev pub clock_changed : CountedLine → ℕ → Bool
clock_changed c i = not (beq (has_bit c.before.clock i) (has_bit c.after.clock i))

abbrev pub data_changed : CountedLine → ℕ → Bool
data_changed c i = not (beq (has_bit c.before.bits i) (has_bit c.after.bits i))

abbrev pub data_changed_high : CountedLine → ℕ → Bool
data_changed_high c i = data_changed c i && has_bit c.after.clock i

abbrev pub clock_rose : CountedLine → ℕ → Bool
clock_rose c i = not (has_bit c.before.clock i) && has_bit c.after.clock i

-- the bit that arrives with sample `i`
abbrev pub bit_between : CountedLine → ℕ → Option Bool
bit_between c i = if clock_rose c i then Some (has_bit c.before.bits i) else None

-- the samples of a block, the first of which is sample `from`, in which something is so
unfoldable pub marked : ℕ → (ℕ → Bool) → List ℕ
marked from is = map (λ i. from + i) (places_where is 64)

-- the facts of a line's bits
pub record AreBitFacts (jump : ℕ) (f : LineFacts) (bs : List ℕ) : Type 0 where
  pub bits : IsTallied f.bits bs
  pub gap : IsLongest f.gap bs
  pub jumps : IsTallied f.jumps (jumps jump bs)
  pub step : f.step ≡ spacing bs (length bs - 1)

-- what becomes of the facts of a line by a block
abbrev pub AdvancesFactsBy : ℕ → LineFacts → ℕ → CountedLine → LineFacts → Type 0
AdvancesFactsBy jump old from c new = (cs ls hs bs : List ℕ) → AreFactsOf jump old cs ls hs bs
    → AreFactsOf jump new (cs ++ marked from (clock_changed c)) (ls ++ marked from (data_changed c))
    (hs ++ marked from (data_changed_high c)) (bs ++ marked from (clock_rose c))
