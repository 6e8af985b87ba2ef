-- The entries of a dictionary by their types.
use Rattle.std.specs.Prelude.{◌≡◌, ◌<◌, ℕ, ◌-◌, ◌==◌, List, length, Option, None, if◌then◌else◌, slice_get, slice_index}
use Rattle.bus_dictionary.specs.Entry.{FrameType}
use Rattle.bus_dictionary.specs.Dictionary.{entry_at}

-- the entry with a number counted from 1; 0 is that of none
abbrev pub numbered : ℕ → List FrameType → Option FrameType
numbered n es = if n == 0 then None else slice_get es (n - 1)

-- each type has the number, among some entries, of the first of these that is of the type
pub record Numbers (ns : List ℕ) (these some : List FrameType) : Type 0 where
  pub count : length ns ≡ 256
  pub each : (t : ℕ) → t < 256 → entry_at t these ≡ numbered (slice_index ns t) some
