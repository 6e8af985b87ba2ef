use Rattle.std.proofs.Common.{rules}
use Rattle.bus_tap.proofs.sampler.LineLevels.sample.Goals as goal

pub returns-then-self-clause-bit : goal.returns-then-self-clause-bit
returns-then-self-clause-bit c = search rules
