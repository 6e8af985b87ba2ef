-- Blocks of 64 samples. A word has a bit of each, that of the first sample the lowest.
use Rattle.std.specs.Prelude.{◌≡◌, ℕ, ◌+◌, ◌/◌, ◌%◌, ◌^◌, ◌<◌, ◌≤◌, ◌==◌, Bool, List, length}
use Rattle.std.specs.Prelude.{if◌then◌else◌, Option, Some, None, IsSome}
use Rattle.std.specs.List.{flat_map}
use Rattle.bus_bits.specs.Limits.{most_places}
use Rattle.bus_line.specs.Due.{places}
use Rattle.bus_line.specs.declared.line.Line.TheVariants.{First, Second}
use Rattle.bus_tap.specs.Facts.{places_where}
use Rattle.bus_tap.specs.Sampled.{Channel, Timed, clock_of, data_of, level, bits_of_edges, with_sample}
use Rattle.bus_tap.specs.Tapped.{TapState}
use Rattle.bus_tap.specs.declared.block.LevelBlock.{LevelBlock}
use Rattle.bus_tap.specs.declared.block.LineEdges.{LineEdges}
use Rattle.bus_tap.specs.declared.block.EdgeBlock.{EdgeBlock}
use Rattle.bus_tap.specs.declared.sampler.Edges.{Edges}

-- bit `i` of a word
abbrev pub has_bit : ℕ → ℕ → Bool
has_bit word i = word / 2 ^ i % 2 == 1

-- the places of a word's ones
unfoldable pub ones_in : ℕ → List ℕ
ones_in word = places_where (has_bit word) 64

-- a word has the levels of a channel in these samples
abbrev pub HasLevels : ℕ → Channel → List ℕ → Type 0
HasLevels word channel ss = (i : ℕ) → i < 64 → has_bit word i ≡ level channel ss i

-- a block has the levels of these samples
pub record IsBlockOf (b : LevelBlock) (ss : List ℕ) : Type 0 where
  pub count : length ss ≡ 64
  pub first_clock : HasLevels b.first.clock (clock_of First) ss
  pub first_bits : HasLevels b.first.bits (data_of First) ss
  pub second_clock : HasLevels b.second.clock (clock_of Second) ss
  pub second_bits : HasLevels b.second.bits (data_of Second) ss

-- the bit of a line in sample `i`, if one arrives
abbrev pub bit_in : LineEdges → ℕ → Option Bool
bit_in e i = if has_bit e.rises i then Some (has_bit e.bits i) else None

-- the bits of sample `i`
abbrev pub edges_in : EdgeBlock → ℕ → Edges
edges_in e i = record { first = bit_in e.first i; second = bit_in e.second i }

-- what arrives in a block whose first sample is number `from`
unfoldable pub block_arrivals : ℕ → EdgeBlock → List Timed
block_arrivals from e = flat_map (λ i. with_sample (from + i) (bits_of_edges (edges_in e i))) (places 64)

-- a tap had a sample, each level counts once it stood in two samples or at once, and it may take 64 samples more
pub record TakesBlocks (t : TapState) : Type 0 where
  pub begun : IsSome t.sampler
  pub hold : t.hold ≤ 1
  pub room : t.samples + 64 ≤ most_places
