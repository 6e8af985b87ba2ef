-- What a call did that was to write a text.
use Rattle.std.specs.Prelude.{◌≤◌, ℕ, List, length, take, Option}
use Rattle.std.specs.Io.KnownBytes.{Appends}

-- the writer went from `start` to `now` by the first octets of a text, as many as were sent
pub record TextStopsAt (start now : Option (List ℕ)) (text : List ℕ) (sent : ℕ) : Type 0 where
  pub out : Appends start now (take sent text)
  pub within : sent ≤ length text
