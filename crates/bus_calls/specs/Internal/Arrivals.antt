-- What the proofs know of two lines with a clock each.
use Rattle.std.specs.Prelude.{◌≡◌, ℕ, Bool, List, map}
use Rattle.bus_formats.specs.Packed.{PairsAfter, arrival_head_fault}
use Rattle.bus_fcs.specs.Check.{CheckView}
use Rattle.bus_watch.specs.Watch.{Watch}
use Rattle.bus_tap.specs.Arrival.{Arrival, arrival_of}
use Rattle.bus_clocks.specs.Clocks.{IsAfterArrivals, bits_taken, two_clocks}
use Rattle.bus_tap.specs.Rested.{IsRestAfter, RestState, rested}
use Rattle.bus_calls.specs.Captures.{form_of_arrivals}
use Rattle.bus_calls.specs.Internal.Headed.{IsHeaded}
use Rattle.bus_calls.specs.Internal.Kinds.{KindView}
use Rattle.bus_calls.specs.declared.arrivals.ClockAnalyser.{ClockAnalyser}

-- the analyser behind the rule of rest
abbrev pub clocks_behind : {C : Type 0} → CheckView C → Watch (ClockAnalyser C) Arrival
clocks_behind view = record {
  is_after = λ a xs. IsAfterArrivals view a.analyser xs;
  dictionary = λ a. a.analyser.conversation.dictionary;
  depth = λ a. a.analyser.conversation.depth;
  origin = λ a. a.analyser.first.origin;
  place = λ a. bits_taken a.analyser;
  reports = (two_clocks view).reports;
}

abbrev pub arrivals_kind : {C : Type 0} → CheckView C → KindView (ClockAnalyser C) (Bool × Bool) Arrival ℕ
arrivals_kind view = record {
  watch = clocks_behind view;
  form = form_of_arrivals;
  rest = λ a. a.rest.most;
  is_fed = λ a xs. IsRestAfter a.rest (map arrival_of xs);
  is_body = λ left xs. IsHeaded arrival_head_fault PairsAfter left xs;
}

-- the rule of rest stands after these symbols, which give these arrivals
pub record RestsAfter (r : RestState) (b : List (Bool × Bool)) (xs : List Arrival) : Type 0 where
  pub after : IsRestAfter r (map arrival_of b)
  pub rested : rested r.most (map arrival_of b) ≡ xs
