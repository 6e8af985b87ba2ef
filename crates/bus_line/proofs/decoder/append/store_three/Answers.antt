use Rattle.std.proofs.Common.{◌-◌, arith}
use Rattle.bus_line.proofs.TracksAppendLemmas.{stores-both}
use Rattle.bus_line.proofs.decoder.append.store_three.Goals as goal

pub returns : goal.returns
returns g c =
    let n = c.args.octets in
    stores-both 2 (c.args.count - 2) n c.args.count (omega (arith, c.if-count-lt2.false))
    (stores-both 1 1 n 2 (omega arith) c.store_one-2.ensures c.store_one-3.ensures) c.store_one-4.ensures
