-- The frame check (ISO/IEC 13239, 16-bit frame checking sequence).
use Rattle.std.specs.Prelude.{◌≡◌, ◌-◌, Bool, true, false, not, List, ◌++◌, length, map, replicate, take, drop}
use Rattle.std.specs.List.{list_all}
use Rattle.bus_fcs.specs.Division.{add, remainder}

-- `d` with its first sixteen and its last sixteen bits inverted
unfoldable pub ends_inverted : List Bool → List Bool
ends_inverted d = map not (take 16 d) ++ take (length d - 32) (drop 16 d) ++ map not (drop (length d - 16) d)

-- good data, of 32 bits or more: with both ends inverted the divisor leaves nothing; of fewer bits this says nothing
unfoldable pub Good : List Bool → Type 0
Good d = remainder (ends_inverted d) ≡ replicate 16 false

-- the same, computed
unfoldable pub is_good : List Bool → Bool
is_good d = list_all not (remainder (ends_inverted d))

-- the sixteen check bits of the content `c`
unfoldable pub fcs : List Bool → List Bool
fcs c =
    map not (add (remainder (replicate 16 true ++ replicate (length c) false)) (remainder (c ++ replicate 16 false)))
