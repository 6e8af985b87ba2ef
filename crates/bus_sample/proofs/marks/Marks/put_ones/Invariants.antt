use Rattle.std.proofs.Common.{◌≡◌, ℕ, ◌+◌, ◌*◌, ◌≤◌, ◌++◌, List, Option, true, replicate}
use Rattle.arrayvec.specs.ArrayVec.{array_vec_len}
use Rattle.bus_tap.specs.Arrival.{Arrival}
use Rattle.bus_sample.specs.Internal.Runs.{HasText}
use Rattle.bus_sample.proofs.marks.Marks.put_ones.Given as goal

-- the 1s so far are put
abbrev pub invariant-loop-turn : goal.invariant-loop-turn
invariant-loop-turn l = record {
  put : (start now : Option (List ℕ)) (xs : List Arrival) → HasText start now l.initial.self xs →
      HasText start now l.self (xs ++ replicate l._turn (l.line, true));
  few : array_vec_len l.self.page.text ≤ array_vec_len l.initial.self.page.text + 2 * l._turn;
  written : l.self.page.written ≡ l.initial.self.page.written;
  stops : l.self.stops ≡ l.initial.self.stops;
}
