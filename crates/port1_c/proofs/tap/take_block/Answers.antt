use Rattle.std.proofs.Common.{map}
use Rattle.bus_tap.specs.Blocks.{block_arrivals}
use Rattle.bus_tap.specs.Tapped.{channels}
use Rattle.port1_c.proofs.TapLemmas.{tapped-more}
use Rattle.port1_c.proofs.tap.take_block.Goals as goal

pub returns-clause-taken : goal.returns-clause-taken
returns-clause-taken c = λ from rule start ls long tapped.
    let old = c.args.tap.now in
    let more = map (channels c.args.wires.now) c.args.octets.now in
    tapped-more from old c.consume_block-edges.new.self rule c.args.stops.now c.put_edges.new.stops start
    c.args.arrivals.now c.put_edges.new.arrivals ls more (block_arrivals old.samples c.consume_block-edges.result) 2048
    c.args.arrived.now c.put_edges.new.count long c.requires.room
    (c.consume_block-edges.ensures.taken more c.block-block.ensures)
    (rw (c.samples-from.ensures) at c.put_edges.ensures) tapped
