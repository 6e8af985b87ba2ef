use Rattle.std.proofs.Common.{◌++◌, take, sym}
use Rattle.bus_formats.specs.Capture.{is_arrival}
use Rattle.bus_bits.specs.Text.{marks_by}
use Rattle.bus_formats.proofs.ArrivalPlanesLemmas.{both-given}
use Rattle.bus_formats.proofs.arrival_planes.close_both.Goals as goal

pub close-requires-clause-room : goal.close-requires-clause-room
close-requires-clause-room c = rw (c.lines_of.ensures) (c.requires.parted.1.of_lines.room)

pub close-requires-clause-held : goal.close-requires-clause-held
close-requires-clause-held c = rw (c.lines_of.ensures) (c.requires.parted.1.of_lines.few)

pub close-requires-clause-rest : goal.close-requires-clause-rest
close-requires-clause-rest c = rw (c.lines_of.ensures) (c.requires.parted.1.of_lines.small)

pub close-requires-2-clause-room : goal.close-requires-2-clause-room
close-requires-2-clause-room c = rw (c.bits_of.ensures) (c.requires.parted.1.of_bits.room)

pub close-requires-2-clause-held : goal.close-requires-2-clause-held
close-requires-2-clause-held c = rw (c.bits_of.ensures) (c.requires.parted.1.of_bits.few)

pub close-requires-2-clause-rest : goal.close-requires-2-clause-rest
close-requires-2-clause-rest c = rw (c.bits_of.ensures) (c.requires.parted.1.of_bits.small)

pub returns-clause-given : goal.returns-clause-given
returns-clause-given c = λ text parted xs clean.
    let bits = rw c.bits_of.ensures at c.close-2.ensures in
    let lines = rw c.lines_of.ensures at c.close.ensures in
    let one = parted.of_bits.given xs clean in
    let other = parted.of_lines.given xs clean in
    let count = sym bits.count in
    rw (bits.taken) (
      one.0,
      both-given (marks_by is_arrival xs) (marks_by is_arrival (xs ++ take c.args.parting.taken text)) _ _
          (rw (bits.bits) one.1) (rw (bits.count, ← lines.count, lines.bits) other.1),
    )
