use Rattle.std.proofs.Common.{refl, inr, codes}
use Rattle.bus_sample_tool.proofs.refuse.refuse.Goals as goal

pub returns-in-Err : goal.returns-in-Err
returns-in-Err g c = inr (inr (refl, refl, codes "port1-sample: no memory", c.put.ensures))
