use Rattle.std.proofs.Common.{◌≡◌, ◌+◌, true, replicate}
use Rattle.port1_c.specs.Tap.{PutsArrivals}
use Rattle.port1_c.proofs.arrival.put_ones.Given as goal

-- the 1s so far are put
abbrev pub invariant-loop-turn : goal.invariant-loop-turn
invariant-loop-turn l = record {
  count : l.count ≡ l.initial.count + l._turn;
  put : PutsArrivals l.initial.count l.initial.arrivals (replicate l._turn (l.line, true)) l.arrivals;
}
