use Rattle.bus_formats.proofs.arrival_planes.part_line.Goals as goal

pub returns-clause-parted : goal.returns-clause-parted
returns-clause-parted c = c.pass_spaces.ensures.parted c.part_many-parting.new.bits c.part_many-parting.new.lines
    c.part_many-parting.ensures.parted
