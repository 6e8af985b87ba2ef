use Rattle.std.proofs.Common.{◌≡◌, length, take}
use Rattle.bus_line.specs.declared.line.Line.TheVariants.{First}
use Rattle.bus_tap.specs.Arrival.{own}
use Rattle.bus_clocks.proofs.feed.count_first.Given as goal

abbrev pub invariant-loop-arrival : goal.invariant-loop-arrival
invariant-loop-arrival l = (l.count ≡ length (own First (take l.arrival-index l.arrivals)))
