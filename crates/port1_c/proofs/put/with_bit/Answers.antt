use Rattle.port1_c.proofs.PutLemmas.{bit-kept, bit-set}
use Rattle.port1_c.proofs.put.with_bit.Goals as goal

pub returns-clause-set : goal.returns-clause-set
returns-clause-set c =
    rw (c.from.ensures) (bit-set c.args.octet c.args.at c.args.bit c.requires.within c.requires.clear)

pub returns-clause-kept : goal.returns-clause-kept
returns-clause-kept c i l other =
    rw (c.from.ensures) (bit-kept c.args.octet c.args.at c.args.bit c.requires.within i other)
