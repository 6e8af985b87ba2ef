use Rattle.bus_tap.proofs.PlacesLemmas.{places-first}
use Rattle.bus_tap.proofs.places.BitPlaces.reach.Goals as goal

pub returns-clause-keeps : goal.returns-clause-keeps
returns-clause-keeps c origin xs bit kept at = places-first origin c.args.place c.args.self.now xs bit kept at
