use Rattle.std.proofs.lemmas.List.{map-append}
use Rattle.bus_tap.specs.Sampled.{Timed, bit_on, with_sample}
use Rattle.bus_line.specs.declared.line.Line.TheVariants.{First, Second}
use Rattle.port1_c.proofs.TapLemmas.{timed-further}
use Rattle.port1_c.proofs.arrival.put_sample.Goals as goal

pub returns : goal.returns
returns c =
    let first = bit_on First c.args.edges.first in
    let second = bit_on Second c.args.edges.second in
    rw (map-append {B = Timed} (λ x. (c.args.sample, x)) first second)
    (timed-further c.args.stops.now c.put_bit.new.stops c.put_bit-2.new.stops c.args.arrivals.now
    c.put_bit.new.arrivals c.put_bit-2.new.arrivals c.args.count.now c.put_bit.new.count c.put_bit-2.new.count 16 16
    (with_sample c.args.sample first) (with_sample c.args.sample second) c.put_bit.ensures c.put_bit-2.ensures)
