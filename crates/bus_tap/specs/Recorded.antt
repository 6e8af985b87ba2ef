-- The samples that octets are.
use Rattle.std.specs.Prelude.{ℕ, ◌-◌, ◌*◌, List, ◌++◌, length, take, drop, replicate}
use Rattle.std.specs.Int.{w64, from_le_bytes}

-- the number that up to eight octets are, the lowest first
abbrev pub record_number : List ℕ → ℕ
record_number xs = from_le_bytes w64 (xs ++ replicate (8 - length xs) 0)

-- record `k` of these octets
abbrev pub record_at : ℕ → List ℕ → ℕ → ℕ
record_at size xs k = record_number (take size (drop (k * size) xs))
