use Rattle.std.proofs.Common.{Some, ap}
use Rattle.port1_c.proofs.PutLemmas.{bits-pushed}
use Rattle.port1_c.proofs.call_bits.CallBitsBitSink.put.Goals as goal

pub returns-clause-taken : goal.returns-clause-taken
returns-clause-taken c =
    ap Some (bits-pushed c.args.self.now.octets c.set_bit.new.octets c.args.self.now.count
    c.args.bit c.set_bit.ensures.set c.set_bit.ensures.kept)
