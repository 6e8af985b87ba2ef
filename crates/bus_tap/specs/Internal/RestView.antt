-- The fields of the rule of rest, as they are seen, and what always holds of them.
use Rattle.std.specs.Prelude.{◌≤◌}
use Rattle.bus_tap.specs.Rested.{RestState}
use Rattle.bus_tap.specs.declared.rest.RestRule.TheInside.{Inside}

abbrev pub rest_state : Inside → RestState
rest_state r = record { most = r.most; silent = r.silent; ones = r.ones }

-- no count is above its bound
pub record IsSilentWithin (r : Inside) : Type 0 where
  pub silent : r.silent ≤ r.most
  pub ones : r.ones ≤ 15
