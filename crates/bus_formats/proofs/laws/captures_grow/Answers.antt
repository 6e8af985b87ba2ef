use Rattle.std.proofs.Common.{◌==◌, codes, refl}
use Rattle.bus_bits.specs.Text.{is_bit}
use Rattle.bus_formats.specs.Packed.{packed_body, packed_capture, packed_whole}
use Rattle.bus_formats.proofs.CaptureLemmas.{capped-grows}
use Rattle.bus_formats.proofs.PackedLemmas.{behind-grows, behind-ends, letters-few, body-grows}
use Rattle.bus_formats.proofs.TextBitsLemmas.{values-grow}
use Rattle.bus_formats.proofs.laws.captures_grow.Goals as goal

pub returns-clause-text : goal.returns-clause-text
returns-clause-text c = values-grow is_bit (λ x. x == 49)

pub returns-clause-packed : goal.returns-clause-packed
unfolding packed_capture
returns-clause-packed c = behind-grows (codes "TS2BITS1") packed_body (letters-few (codes "TS2BITS1") refl) body-grows

pub returns-clause-ended : goal.returns-clause-ended
unfolding packed_capture packed_whole
returns-clause-ended c = behind-ends (codes "TS2BITS1") packed_body

pub returns-clause-capped : goal.returns-clause-capped
returns-clause-capped c = capped-grows
