-- What a decoder holds of the bits that it took.
use Rattle.std.specs.Prelude.{◌≡◌, ℕ, ◌+◌, ◌-◌, ◌*◌, ◌/◌, ◌≤◌, Bool, false, List, ◌++◌, length, take, drop, replicate}
use Rattle.std.specs.Prelude.{slice_range}
use Rattle.bus_bits.specs.Octet.{number, octets}
use Rattle.bus_fcs.specs.Check.{CheckView}
use Rattle.bus_line.specs.Run.{data_so_far}
use Rattle.bus_line.specs.Due.{Mark, NoMark, FlagAt, AbortAt, first_of}
use Rattle.bus_line.specs.Ledger.{assembled, stored}
use Rattle.bus_line.specs.LineState.{LineState, stored_of}

-- the data of the raw bits after the flag at p, up to eight bits before the end
abbrev pub settled_data : List Bool → ℕ → List Bool
settled_data b p = data_so_far (slice_range b (p + 8) (length b - 8))

-- the bits of whole words of eight octets, and those after them
abbrev pub in_words : List Bool → List Bool
in_words bits = take (64 * (length bits / 64)) bits

abbrev pub after_words : List Bool → List Bool
after_words bits = drop (64 * (length bits / 64)) bits

-- the room for the octets of whole words
abbrev pub words_room : ℕ → ℕ
words_room longest = 8 * ((longest + 2) / 8)

-- the decoder holds the first words of this data, their check, and the bits after them
pub record Holds {C : Type 0} (folded : C → List ℕ → Type 0) (d : LineState C) (bits : List Bool) : Type 0 where
  pub count : d.data_bits ≡ length bits
  pub partial : d.partial ≡ number (after_words bits)
  pub held : 64 ≤ length bits → d.octets ≡ take (words_room d.longest) (octets (in_words bits))
  pub checked : 64 ≤ length bits → folded d.check (take (words_room d.longest) (octets (in_words bits)))

abbrev pub HoldsFor : {C : Type 0} → (C → List ℕ → Type 0) → LineState C → List Bool → Mark → Type 0
HoldsFor folded d b NoMark = Unit {0}
HoldsFor folded d b (FlagAt p) = Holds folded d (settled_data b p)
HoldsFor folded d b (AbortAt a) = Unit {0}

-- the counters are those of the ledger
pub record Counts {C : Type 0} (cost : ℕ) (d : LineState C) (b : List Bool) : Type 0 where
  pub settled : d.spent.assembled ≡ assembled b
  pub filled : d.spent.stored ≡ stored d.longest b
  pub paid : d.spent.folded + cost * stored_of d.longest d.data_bits ≡ cost * stored d.longest b
  pub copied : d.spent.copied ≡ 0
  pub handled : d.spent.handled ≡ 0

-- sixteen 0s, and these bits
abbrev pub padded : List Bool → List Bool
padded b = replicate 16 false ++ b

-- the bits b were taken; their last sixteen are kept, the oldest lowest
pub record HasTaken {C : Type 0} (d : LineState C) (b : List Bool) : Type 0 where
  pub place : d.place ≡ d.origin + length b
  pub last_bits : d.last_bits ≡ number (drop (length b) (padded b))

-- the bits b were taken and settled, and this mark was the last
pub record Tracks {C : Type 0} (view : CheckView C) (d : LineState C) (b : List Bool)
    (mark : Mark) : Type 0 where
  pub has_taken : HasTaken d b
  pub first : d.first ≡ first_of d.origin mark
  pub piece : HoldsFor view.folded d b mark
  pub counts : Counts view.cost d b
