-- What is counted in the samples of two lines, by whose numbers faults of a tap can be told.
--
-- Levels are those that count. Samples are numbered from 0.
use Rattle.std.specs.Prelude.{◌≡◌, ℕ, ◌-◌, ◌<◌, ◌≤◌, ◌⊎◌, ◌&&◌, not, nat_lt, nat_le, Bool, List, [], ◌∷◌, length}
use Rattle.std.specs.Prelude.{if◌then◌else◌, slice_index}
use Rattle.std.specs.List.{flat_map}
use Rattle.std.specs.Bool.{beq}
use Rattle.std.specs.Int.{abs_diff}
use Rattle.bus_line.specs.Due.{places}
use Rattle.bus_line.specs.declared.line.Line.{Line}
use Rattle.bus_tap.specs.Sampled.{Channel, clock_of, data_of, counted_level, rises}
use Rattle.bus_tap.specs.declared.facts.Occurrences.{Occurrences}
use Rattle.bus_tap.specs.declared.facts.Gap.{Gap}
use Rattle.bus_tap.specs.declared.facts.Levels.{Levels}
use Rattle.bus_tap.specs.declared.facts.LineFacts.{LineFacts}
use Rattle.bus_tap.specs.declared.facts.TapFacts.{TapFacts}
use Rattle.bus_line.specs.declared.line.Line.TheVariants.{First, Second}

-- the places below `n` where something is so
abbrev pub places_where : (ℕ → Bool) → ℕ → List ℕ
places_where is n = flat_map (λ i. if is i then i ∷ [] else []) (places n)

-- the level of a channel differs from that in the sample before
abbrev pub changes : ℕ → Channel → List ℕ → ℕ → Bool
changes hold channel ss i = not (beq (counted_level hold channel ss (i - 1)) (counted_level hold channel ss i))

-- the data of a line changes in a sample in which its clock is high
abbrev pub changes_high : ℕ → Line → List ℕ → ℕ → Bool
changes_high hold line ss i = changes hold (data_of line) ss i && counted_level hold (clock_of line) ss i

-- the samples in which a line's clock rises, each of which brings a bit
abbrev pub bit_samples : ℕ → Line → List ℕ → List ℕ
bit_samples hold line ss = places_where (rises hold (clock_of line) ss) (length ss)

-- how far element `k` stands behind the one before
abbrev pub spacing : List ℕ → ℕ → ℕ
spacing es k = slice_index es k - slice_index es (k - 1)

-- a spacing differs by more than `most` from that before
abbrev pub is_jump : ℕ → List ℕ → ℕ → Bool
is_jump most es k = nat_le 2 k && nat_lt most (abs_diff (spacing es k) (spacing es (k - 1)))

-- the elements to which such spacings lead
abbrev pub jumps : ℕ → List ℕ → List ℕ
jumps most es = flat_map (λ k. if is_jump most es k then slice_index es k ∷ [] else []) (places (length es))

-- how many these are, the first of them and the last; both are 0 where there is none
pub record IsTallied (o : Occurrences) (es : List ℕ) : Type 0 where
  pub count : o.count ≡ length es
  pub first : o.first ≡ slice_index es 0
  pub last : o.last ≡ slice_index es (length es - 1)

-- the first of the longest spacings is the one to element `k`
pub record IsLongestAt (g : Gap) (es : List ℕ) (k : ℕ) : Type 0 where
  pub some : 1 ≤ k
  pub inside : k < length es
  pub from : g.from ≡ slice_index es (k - 1)
  pub reaches : g.length ≡ spacing es k
  pub first : (j : ℕ) → 1 ≤ j → j < k → spacing es j < g.length
  pub longest : (j : ℕ) → 1 ≤ j → j < length es → spacing es j ≤ g.length

-- the first of the longest steps, or nothing where there is none
abbrev pub IsLongest : Gap → List ℕ → Type 0
IsLongest g es = ((length es ≤ 1) × (g.from ≡ 0) × (g.length ≡ 0)) ⊎ ((k : ℕ) × IsLongestAt g es k)

-- the facts of a line whose clock and data change, whose data changes while the clock is high, and whose bits arrive
-- in these samples
pub record AreFactsOf (jump : ℕ) (f : LineFacts) (cs ls hs bs : List ℕ) : Type 0 where
  pub clock_changes : IsTallied f.clock_changes cs
  pub data_changes : IsTallied f.data_changes ls
  pub data_changes_high : IsTallied f.data_changes_high hs
  pub bits : IsTallied f.bits bs
  pub gap : IsLongest f.gap bs
  pub jumps : IsTallied f.jumps (jumps jump bs)
  pub step : f.step ≡ spacing bs (length bs - 1)

-- the facts of a line in these samples
abbrev pub AreFacts : ℕ → ℕ → Line → LineFacts → List ℕ → Type 0
AreFacts hold jump line f ss =
    AreFactsOf jump f (places_where (changes hold (clock_of line) ss) (length ss))
    (places_where (changes hold (data_of line) ss) (length ss))
    (places_where (changes_high hold line ss) (length ss)) (bit_samples hold line ss)

-- the levels of a line that count at sample `i`
pub record AreLevels (hold : ℕ) (line : Line) (ss : List ℕ) (i : ℕ) (l : Levels) : Type 0 where
  pub clock : l.clock ≡ counted_level hold (clock_of line) ss i
  pub bits : l.bits ≡ counted_level hold (data_of line) ss i

-- what is counted in these samples; before the first, levels are low
pub record AreTapFacts (hold jump : ℕ) (f : TapFacts) (ss : List ℕ) : Type 0 where
  pub samples : f.samples ≡ length ss
  pub first : AreFacts hold jump First f.first ss
  pub second : AreFacts hold jump Second f.second ss
  pub first_levels : AreLevels hold First ss (length ss - 1) f.first_levels
  pub second_levels : AreLevels hold Second ss (length ss - 1) f.second_levels

-- nothing happened more often than there are samples, or later
pub record AreWithin (f : LineFacts) (samples : ℕ) : Type 0 where
  pub clock_changes : f.clock_changes.count ≤ samples
  pub data_changes : f.data_changes.count ≤ samples
  pub data_changes_high : f.data_changes_high.count ≤ samples
  pub bits : f.bits.count ≤ samples
  pub last : f.bits.last ≤ samples
  pub jumps : f.jumps.count ≤ samples
