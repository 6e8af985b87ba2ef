use Rattle.std.proofs.Common.{◌≡◌, ◌-◌, ◌≤◌, length}
use Rattle.port1_c.specs.Rest.{IsRest, PutsRested}
use Rattle.port1_c.proofs.rest.port1_rest_feed.Given as goal

-- the arrivals before this one were put
abbrev pub invariant-loop-at : goal.invariant-loop-at
invariant-loop-at l = record {
  order : l.initial.at ≤ l.at;
  within : l.initial.at ≤ length l.arrivals → l.at ≤ length l.arrivals;
  long : length l.out ≡ length l.initial.out;
  room : l.put ≤ length l.out;
  sound : IsRest l.initial.rest → IsRest l.rest;
  most : l.rest.most ≡ l.initial.rest.most;
  puts : PutsRested l.initial.rest l.initial.out l.arrivals l.initial.at l.at l.rest l.out l.put;
}

abbrev pub decreases-loop-at : goal.decreases-loop-at
decreases-loop-at l = length l.arrivals - l.at
