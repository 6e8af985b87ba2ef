use Rattle.std.proofs.Common.{◌≡◌, ◌-◌, ◌%◌, ◌≤◌, ℕ, List}
use Rattle.bus_tap.specs.Arrival.{Arrival, arrivals_from}
use Rattle.bus_tap.specs.Internal.Quiet.{IsQuietFor, Passes}
use Rattle.bus_tap.proofs.rest.Quiet.pass_octets.Given as goal

-- the arrivals so far bring no rest
abbrev pub invariant-loop-self : goal.invariant-loop-self
invariant-loop-self l = record {
  within : (l.fn.self.at ≤ l.self.at) × (l.self.at ≤ l.fn.end);
  whole : l.self.at % 8 ≡ 0;
  passes : (bits : List ℕ) (xs : List Arrival) → IsQuietFor l.fn.most xs l.fn.self.left →
      Passes l.fn.most xs (arrivals_from bits l.fn.lines l.fn.self.at (l.self.at - l.fn.self.at)) l.self.left;
}

abbrev pub decreases-loop-self : goal.decreases-loop-self
decreases-loop-self l = l.fn.end - l.self.at
