use Rattle.std.proofs.Common.{Some, refl}
use Rattle.bus_tap.proofs.LocatedLemmas.{located-last}
use Rattle.bus_tap.proofs.places.BitPlaces.located.Goals as goal

pub returns-clause-last : goal.returns-clause-last
returns-clause-last c =
    located-last c.args.self.now (Some c.args.event) (Some c.moved.result) (c.moved.result, refl, c.moved.ensures)
