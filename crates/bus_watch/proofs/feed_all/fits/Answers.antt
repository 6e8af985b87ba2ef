use Rattle.std.proofs.Common.{[], arith}
use Rattle.bus_watch.proofs.HeadlineLemmas.{pieces-one}
use Rattle.bus_watch.proofs.feed_all.fits.Goals as goal

pub returns-then-count-left : goal.returns-then-count-left
returns-then-count-left c = (
  λ no. absurd (cc),
  λ few. absurd (
      let one = pieces-one c.args.pieces.now c.loop-piece.piece-index (record { ref_ptr = (0, 0); now = [] })
      c.loop-piece-test.true in
      omega (arith, few, c.loop-piece.invariant, c.if-count-left.true, one)
      ),
)
