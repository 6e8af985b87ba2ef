use Rattle.bus_formats.proofs.text_block.pack_line.Goals as goal

pub returns-clause-packed : goal.returns-clause-packed
returns-clause-packed c = c.pass_spaces.ensures.packed c.pack_sixteen-packing.new.block
    c.pack_sixteen-packing.ensures.packed
