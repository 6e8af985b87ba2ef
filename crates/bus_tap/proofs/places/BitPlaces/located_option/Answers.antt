use Rattle.std.proofs.Common.{rules, Some}
use Rattle.bus_tap.proofs.LocatedLemmas.{located-last}
use Rattle.bus_tap.proofs.places.BitPlaces.located_option.Goals as goal

pub returns-in-Some-clause-located : goal.returns-in-Some-clause-located
returns-in-Some-clause-located c = search rules

pub returns-in-Some-clause-last : goal.returns-in-Some-clause-last
returns-in-Some-clause-last c =
    located-last c.args.self.now c.args.event (Some c.located.result) (returns-in-Some-clause-located c)
