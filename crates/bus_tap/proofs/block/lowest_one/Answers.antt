use Rattle.bus_tap.proofs.OnesLemmas.{lowest, lowest-first, one-bit, rest-none}
use Rattle.bus_tap.proofs.block.lowest_one.Goals as goal

pub returns-clause-ones : goal.returns-clause-ones
returns-clause-ones c = lowest-first c.args.word c.requires c.ranges.word.fits

pub returns-clause-none : goal.returns-clause-none
returns-clause-none c = rest-none c.args.word c.requires c.ranges.word.fits

pub returns-clause-inside : goal.returns-clause-inside
returns-clause-inside c =
    let low = lowest c.args.word c.requires c.ranges.word.fits in
    (low.0, one-bit c.args.word _ low.1)
