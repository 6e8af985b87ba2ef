use Rattle.std.proofs.Common.{refl}
use Rattle.bus_tap.proofs.TapLemmas.{passes-settled}
use Rattle.bus_tap.proofs.tap.Tap.pass.Goals as goal

pub returns : goal.returns
returns c =
    let settled = rw (← c.self.view_is) at c.requires.settled in
    rw (← c.self.view_is) (passes-settled _ c.self.inside.sampler refl c.args.sample settled c.args.count)
