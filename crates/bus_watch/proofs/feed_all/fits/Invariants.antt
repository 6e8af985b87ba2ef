use Rattle.std.proofs.Common.{◌≡◌, ◌+◌, take, length}
use Rattle.bus_watch.specs.Headline.{bits_in}
use Rattle.bus_watch.proofs.feed_all.fits.Given as goal

-- the places that the pieces so far leave
abbrev pub invariant-loop-piece : goal.invariant-loop-piece
invariant-loop-piece l = l.left + length (bits_in (take l.piece-index l.pieces)) ≡ l.places
