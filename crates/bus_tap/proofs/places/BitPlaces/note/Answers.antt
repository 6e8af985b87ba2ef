use Rattle.bus_tap.proofs.PlacesLemmas.{decided-noted, keeps-noted}
use Rattle.bus_tap.proofs.places.BitPlaces.note.Goals as goal

pub returns-clause-keeps : goal.returns-clause-keeps
returns-clause-keeps c = keeps-noted c.write.ensures

pub returns-clause-decided : goal.returns-clause-decided
returns-clause-decided c = decided-noted c.write.ensures
