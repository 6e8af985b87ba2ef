use Rattle.std.proofs.Common.{◌*◌, ◌%◌, ◌^◌}
use Rattle.port1_c.proofs.PutLemmas.{bits-put, others-kept}
use Rattle.port1_c.proofs.put.with_bits.Goals as goal

pub returns-clause-put : goal.returns-clause-put
returns-clause-put c i few = bits-put c.args.at c.args.count c.requires.within c.args.octet c.args.bits i few

pub returns-clause-kept : goal.returns-clause-kept
returns-clause-kept c i few out =
    others-kept c.args.at c.args.count c.requires.within c.args.octet (c.args.bits * 2 ^ c.args.at % 2 ^ 8) i few out
