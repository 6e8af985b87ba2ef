-- What a sink took, and how much more it can take.
use Rattle.std.specs.Prelude.{◌≡◌, ℕ, ◌+◌, ◌<◌, ◌≤◌, List, length, Option, Some, None}
use Rattle.bus_pairing.specs.Seen.{SeenReport}

-- the reports that it took and how many it has room for in all, unless it leaves these untold, and how often it refused
pub record SinkView (S : Type 0) : Type 0 where
  pub taken : S → Option (List SeenReport)
  pub room : S → Option ℕ
  pub refusals : S → ℕ

-- a sink that has room for so many reports and took these is full; nothing is said of one that does not tell both
abbrev pub IsFull : Option ℕ → Option (List SeenReport) → Type 0
IsFull None taken = Unit {0}
IsFull (Some room) None = Unit {0}
IsFull (Some room) (Some reports) = length reports ≡ room

-- it took no more than it has room for
abbrev pub IsWithinRoom : Option ℕ → Option (List SeenReport) → Type 0
IsWithinRoom None taken = Unit {0}
IsWithinRoom (Some room) None = Unit {0}
IsWithinRoom (Some room) (Some reports) = length reports ≤ room

-- what a sink did that refused so many of the reports that it was offered: it counted them, keeps its room, and took no
-- more than it has room for if that was so before; where it refused any, it is full
pub record SinkTook {S : Type 0} (sink : SinkView S)
    (refused : ℕ) (before after : S) : Type 0 where
  pub counted : sink.refusals after ≡ sink.refusals before + refused
  pub same_room : sink.room after ≡ sink.room before
  pub full : 0 < refused → IsFull (sink.room after) (sink.taken after)
  pub within : IsWithinRoom (sink.room before) (sink.taken before) → IsWithinRoom (sink.room after) (sink.taken after)
