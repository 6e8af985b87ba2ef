use Rattle.std.proofs.Common.{◌≡◌, ◌+◌, ◌≤◌, ◌++◌, ◌∷◌, [], length, length-append, arith}
use Rattle.bus_tap.specs.Arrival.{Arrival}
use Rattle.bus_tap.specs.Stopped.{stop_fill}
use Rattle.bus_tap.proofs.StopLemmas.{stops-nothing}
use Rattle.port1_c.specs.Tap.{PutsArrivals}
use Rattle.port1_c.proofs.TapLemmas.{puts-further, puts-nothing}
use Rattle.port1_c.proofs.arrival.put_bit.Goals as goal
use Rattle.port1_c.proofs.arrival.put_bit.Goals.{then-push, else-push}

pub returns-in_default : goal.returns-in_default
returns-in_default c = rw (c.in_default.is) (record {
  xs = [];
  few = omega arith;
  number = omega arith;
  put = puts-nothing c.args.count.now c.args.arrivals.now;
  rested = stops-nothing c.args.stops.now;
})

pub returns : goal.returns
returns c =
    let x : Arrival = (c.args.line, c.in-Some.bit) in
    let fill = stop_fill c.push.result c.args.line in
    let few : (length fill ≤ 15) × (c.if-push.count ≡ c.args.count.now + length fill) = elim c.if-push.branch [
      | then-push w ↦ rw (w.if-push.true, w.count-is) (omega arith, w.put_ones.ensures.count)
      | else-push w ↦ rw (w.if-push.false, w.count-is) (omega arith, omega arith)
    ] in
    let put : PutsArrivals c.args.count.now c.args.arrivals.now fill c.if-push.arrivals = elim c.if-push.branch [
      | then-push w ↦ rw (w.if-push.true, w.arrivals-is) w.put_ones.ensures.put
      | else-push w ↦ rw (w.if-push.false, w.arrivals-is) (puts-nothing c.args.count.now c.args.arrivals.now)
    ] in
    rw (c.in-Some.is) (record {
      xs = fill ++ x ∷ [];
      few = omega (arith, few.0, length-append fill (x ∷ []));
      number = omega (arith, few.1, c.put_arrival.ensures.count, length-append fill (x ∷ []));
      put = puts-further c.args.count.now c.if-push.count c.args.arrivals.now c.if-push.arrivals
          c.put_arrival.new.arrivals fill (x ∷ []) few.1 put c.put_arrival.ensures.put;
      rested = c.push.ensures c.in-Some.bit;
    })
