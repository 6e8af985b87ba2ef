-- A text that is packed into a block.
use Rattle.std.specs.Prelude.{◌≡◌, ◌≤◌, ◌<◌, ◌==◌, ◌^◌, ℕ, Bool, List, ◌++◌, length, map, take, None}
use Rattle.bus_bits.specs.Octet.{bits_of, bits_of_octets}
use Rattle.bus_formats.specs.Capture.{fault_by, is_arrival, mark_arrival}
use Rattle.bus_bits.specs.Text.{is_bit, marks_by}
use Rattle.bus_formats.specs.declared.arrival_planes.Parting.{Parting}
use Rattle.bus_formats.specs.declared.text_block.Packing.{Packing}

-- the bits that a block has: those of its full octets, and those that fill none yet
abbrev pub packed_bits : List ℕ → Packing → List Bool
packed_bits block p = bits_of_octets (take p.filled block) ++ bits_of p.held p.rest

-- they are what the first octets of the text mark, a bit for each mark
pub record IsPackedBy (is_mark value : ℕ → Bool) (text block : List ℕ) (p : Packing) : Type 0 where
  pub enough : p.taken ≤ length text
  pub room : p.filled < length block
  pub few : p.held < 8
  pub small : p.rest < 2 ^ p.held
  pub given : (xs : List ℕ) → fault_by is_mark xs ≡ None
      → (fault_by is_mark (xs ++ take p.taken text) ≡ None)
      × (map value (marks_by is_mark (xs ++ take p.taken text))
      ≡ map value (marks_by is_mark xs) ++ packed_bits block p)

-- they are its bits
abbrev pub IsPacked : List ℕ → List ℕ → Packing → Type 0
IsPacked text block p = IsPackedBy is_bit (λ x. x == 49) text block p

-- of arrivals two blocks have these: one their bits, and the other which are of the second line
abbrev pub bits_of_both : Parting → Packing
bits_of_both p = record { taken = p.taken; filled = p.filled; rest = p.bits; held = p.held }

abbrev pub lines_of_both : Parting → Packing
lines_of_both p = record { taken = p.taken; filled = p.filled; rest = p.lines; held = p.held }

pub record AreParted (text bits lines : List ℕ) (p : Parting) : Type 0 where
  pub of_bits : IsPackedBy is_arrival (λ x. (mark_arrival x).0) text bits (bits_of_both p)
  pub of_lines : IsPackedBy is_arrival (λ x. (mark_arrival x).1) text lines (lines_of_both p)
