use Rattle.std.proofs.Common.{inr}
use Rattle.bus_calls.proofs.list.close_behind.Goals as goal

pub returns-in-Err : goal.returns-in-Err
returns-in-Err g c = record {
  cut = λ sent is. absurd (c.in_default.not-Write sent is);
  closed = λ no start text page. inr (c.in-Err.cut.sent, c.into.ensures, c.in-Err.ensures.closed start text page);
}
