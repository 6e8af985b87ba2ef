-- The fields of an analyser of two lines, as they are seen, and what always holds of them.
use Rattle.std.specs.Prelude.{◌≤◌, Bool, List}
use Rattle.bus_fcs.specs.Check.{CheckView}
use Rattle.bus_watch.specs.Pairs.{PairState, IsAfterPairs}
use Rattle.bus_watch.specs.declared.pair.analyser.PairAnalyser.TheInside.{Inside}

abbrev pub pair_state : {C : Type 0} → Inside C → PairState C
pair_state a = record {
  first = a.first;
  second = a.second;
  conversation = a.conversation;
}

-- it stands after some list of pairs
pub record IsWithin {C : Type 0} (view : CheckView C) (a : Inside C) : Type 0 where
  pub depth : a.conversation.depth ≤ 1024
  pub pairs : List (Bool × Bool)
  pub reached : IsAfterPairs view (pair_state a) pairs
