use Rattle.std.proofs.Common.{refl}
use Rattle.bus_tap.proofs.tap.Tap.new.Goals as goal

pub returns-clause-after : goal.returns-clause-after
returns-clause-after c = record {
  samples = refl;
  sampler = refl;
  first = c.none.ensures.none c.args.jump;
  second = c.none-2.ensures.none c.args.jump;
}
