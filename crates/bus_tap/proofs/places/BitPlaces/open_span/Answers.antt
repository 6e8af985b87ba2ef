use Rattle.std.proofs.Common.{refl}
use Rattle.bus_tap.proofs.PlacesLemmas.{open-span}
use Rattle.bus_tap.proofs.places.BitPlaces.open_span.Goals as goal

pub returns-clause-open : goal.returns-clause-open
returns-clause-open c = open-span c.args.self.now c.args.count _ refl (rw (c.saturating_sub.ensures) at c.past.ensures)
