use Rattle.std.proofs.Common.{codes, refl}
use Rattle.bus_formats.specs.Packed.{packed_body, packed_capture, packed_whole}
use Rattle.bus_formats.proofs.PackedLemmas.{behind-headed, behind-short, letters-few}
use Rattle.bus_formats.proofs.laws.packed_is_head_and_body.Goals as goal

pub returns-clause-headed : goal.returns-clause-headed
unfolding packed_capture packed_whole
returns-clause-headed c = behind-headed (codes "TS2BITS1") packed_body (letters-few (codes "TS2BITS1") refl)

pub returns-clause-short : goal.returns-clause-short
unfolding packed_capture packed_whole
returns-clause-short c = behind-short (codes "TS2BITS1") packed_body
