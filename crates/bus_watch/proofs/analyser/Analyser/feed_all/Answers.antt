use Rattle.std.proofs.Common.{◌≤◌, ◌^◌, ◌+◌, ◌-◌, Err, List, [], Bool, Bor, length, take, drop, get_or, refl, ap, ◌∙◌}
use Rattle.std.proofs.Common.{arith, length-append}
use Rattle.bus_watch.specs.Headline.{bits_in}
use Rattle.bus_pairing.proofs.SinkLemmas.{took-none, took-after}
use Rattle.bus_watch.proofs.FedLemmas.{fed-nil, fed-more, refused_at-after}
use Rattle.bus_watch.proofs.HeadlineLemmas.{pieces-more, pieces-one, pieces-at}
use Rattle.bus_watch.proofs.analyser.Analyser.feed_all.Goals as goal

-- a piece that is lent
abbrev none : Bor (List Bool)
none = record { ref_ptr = (0, 0); now = [] }

pub loop-piece-init : goal.loop-piece-init
loop-piece-init g c = record { fed = fed-nil; count = refl; sink = took-none }

pub loop-piece-preserved : goal.loop-piece-preserved
loop-piece-preserved g c =
    let more = pieces-more c.args.pieces.now c.loop-piece.piece-index none c.loop-piece-test.true in
    record {
      fed = rw more (fed-more c.loop-piece.invariant.fed c.in-Ok.ensures.fed);
      count =
          omega (
            arith,
            c.loop-piece.invariant.count,
            ap length more,
            length-append (bits_in (take c.loop-piece.piece-index c.args.pieces.now))
                (get_or c.args.pieces.now c.loop-piece.piece-index none).now,
          );
      sink = took-after c.loop-piece.invariant.sink c.in-Ok.ensures.none_refused;
    }

pub returns-in-Err-Sink-clause-refused : goal.returns-in-Err-Sink-clause-refused
returns-in-Err-Sink-clause-refused g c =
    let i = c.loop-piece.piece-index in
    rw (c.in-Err-Sink.consumed-is)
    (refused_at-after (bits_in (drop (i + 1) c.args.pieces.now)) (bits_in c.args.pieces.now)
    (pieces-at c.args.pieces.now i none c.loop-piece-test.true) c.loop-piece.invariant.count c.loop-piece.invariant.fed
    (rw c.in-Err-Sink.field-0-is at c.in-Err-Sink.ensures.refused))

pub returns-in-Err-Sink-clause-one_refused : goal.returns-in-Err-Sink-clause-one_refused
returns-in-Err-Sink-clause-one_refused g c =
    took-after c.loop-piece.invariant.sink (rw c.in-Err-Sink.field-0-is at c.in-Err-Sink.ensures.one_refused)

pub unreachable-requires : goal.unreachable-requires
unreachable-requires g c =
    let one = pieces-one c.args.pieces.now c.loop-piece.piece-index none c.loop-piece-test.true in
    let fits : length (bits_in c.args.pieces.now) ≤ 2 ^ 60 - c.place.result = c.fits.ensures.0 c.if-not-fits.false in
    let past = c.feed.ensures.limit.0 (c.in-Err-PlaceLimit.is ∙ ap Err c.in-Err-PlaceLimit.field-0-is) in
    omega (arith, one, fits, past, c.place.ensures.value, c.place.ensures.fits, c.loop-piece.invariant.fed.sees.place)
