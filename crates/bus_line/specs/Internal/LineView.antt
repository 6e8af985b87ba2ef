-- A decoder's fields, as they are seen, and their bounds.
use Rattle.std.specs.Prelude.{ℕ, ◌+◌, ◌^◌, Option, Some, None}
use Rattle.bus_line.specs.LineState.{LineState}
use Rattle.bus_line.specs.Words.{IsDecoder, state}
use Rattle.bus_line.specs.declared.decoder.LineDecoder.TheInside.{Inside}

abbrev pub line_state : {C : Type 0} → Inside C → LineState C
line_state d = state d.words d.check d.frame.items

-- the place after which each bit settles one of the piece that begins there; with no piece open, no bit's place comes
-- so far
abbrev pub settles_from : Option ℕ → ℕ
settles_from None = 2 ^ 62
settles_from (Some first) = first + 8

abbrev pub is_decoder : {C : Type 0} → Inside C → Type 0
is_decoder d = IsDecoder d.words d.frame.items
