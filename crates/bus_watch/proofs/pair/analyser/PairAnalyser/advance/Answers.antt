use Rattle.std.proofs.Common.{◌≤◌, [], ◌∷◌, ◌++◌, refl, sym, arith}
use Rattle.std.proofs.lemmas.Bool.{true≢false}
use Rattle.bus_bits.specs.Limits.{most_places}
use Rattle.bus_watch.specs.Internal.PairView.{pair_state}
use Rattle.bus_watch.specs.Pairs.{PairState, AdvancesPairs}
use Rattle.bus_watch.specs.PairShown.{seen_of_pair}
use Rattle.bus_watch.proofs.PairLemmas.{room-first, room-second}
use Rattle.bus_watch.proofs.PairScanLemmas.{sees-pair}
use Rattle.bus_watch.proofs.MergedLemmas.{length-firsts, length-seconds}
use Rattle.bus_watch.proofs.pair.analyser.PairAnalyser.advance.Given.{Over}
use Rattle.bus_watch.proofs.pair.analyser.PairAnalyser.advance.Goals as goal

pub decode_bit-requires-clause-room : goal.decode_bit-requires-clause-room
decode_bit-requires-clause-room g c = λ below.
    let ps = c.self.invariant.pairs in
    room-first g.C.Check.check (pair_state c.self.inside) ps c.settled_places.ensures.frames
    c.settled_places.ensures.paid c.settled_places.ensures.within c.self.invariant.reached
    (omega (arith, below, c.self.invariant.reached.first.has_taken.place, length-firsts ps))

pub decode_bit-requires-2-clause-room : goal.decode_bit-requires-2-clause-room
decode_bit-requires-2-clause-room g c = λ below.
    let ps = c.self.invariant.pairs in
    let reached = c.self.invariant.reached in
    room-second g.C.Check.check (pair_state c.self.inside) c.decode_bit.new.decoder c.decode_bit.new.conversation _ _ ps
    c.settled_places.ensures.frames c.settled_places.ensures.paid c.settled_places.ensures.within
    c.in_ok-found_first.ensures.reports reached
    (omega (arith, below, reached.second.has_taken.place, reached.origin, length-seconds ps))

pub unreachable-requires : goal.unreachable-requires
unreachable-requires g c =
    let ps = c.self.invariant.pairs in
    let reached = c.self.invariant.reached in
    let past : most_places ≤ c.self.inside.first.place =
    omega (
      arith,
      c.in-Err.ensures.limit.0 refl,
      reached.first.has_taken.place,
      reached.second.has_taken.place,
      reached.origin,
      length-firsts ps,
      length-seconds ps,
    ) in
    true≢false (sym (c.in_ok-found_first.ensures.limit.1 past))

abbrev next-state : (g : Over) (c : goal.In-Ok g) → PairState g.row.C.Denot
next-state g c =
    record {
      first = c.decode_bit.new.decoder;
      second = c.decode_bit-2.new.decoder;
      conversation =
          c.decode_bit-2.new.conversation;
    }

sees : (g : Over) (c : goal.In-Ok g) → AdvancesPairs g.C.Check.check (pair_state c.self.inside)
    ((c.args.first, c.args.second) ∷ [])
    (seen_of_pair (next-state g c) (record { first = c.in_ok-found_first.found_first; second = c.in-Ok.seen_event }))
    (next-state g c)
sees g c =
    sees-pair g.C.Check.check c.args.first c.args.second (pair_state c.self.inside) (next-state g c)
    c.decode_bit.new.conversation _ _ c.reports_grow.ensures.stays c.reports_grow.ensures.more
    c.reports_grow.ensures.grow
    c.in_ok-found_first.ensures.reports c.in-Ok.ensures.reports

pub invariant_of-self-2 : goal.invariant_of-self-2
invariant_of-self-2 g c =
    let led = sees g c in
    record {
      depth = omega (arith, c.self.invariant.depth, led.depth);
      pairs = c.self.invariant.pairs ++ (c.args.first, c.args.second) ∷ [];
      reached = led.is_after c.self.invariant.pairs c.self.invariant.reached;
    }

pub returns-clause-sees : goal.returns-clause-sees
returns-clause-sees g c = rw (← c.self.view_is) (sees g c)
