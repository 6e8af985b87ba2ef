use Rattle.std.proofs.Common.{codes, refl}
use Rattle.bus_formats.specs.Capture.{is_pair, mark_pair}
use Rattle.bus_formats.specs.Packed.{pair_body, packed_pair_capture, packed_pair_whole}
use Rattle.bus_formats.proofs.CaptureLemmas.{capped-grows}
use Rattle.bus_formats.proofs.PackedLemmas.{behind-grows, behind-ends, letters-few}
use Rattle.bus_formats.proofs.PairsLemmas.{pair-body-grows}
use Rattle.bus_formats.proofs.TextBitsLemmas.{values-grow}
use Rattle.bus_formats.proofs.laws.pair_captures_grow.Goals as goal

pub returns-clause-text : goal.returns-clause-text
returns-clause-text c = values-grow is_pair mark_pair

pub returns-clause-packed : goal.returns-clause-packed
unfolding packed_pair_capture
returns-clause-packed c =
    behind-grows (codes "TS2BITS2") pair_body (letters-few (codes "TS2BITS2") refl) pair-body-grows

pub returns-clause-ended : goal.returns-clause-ended
unfolding packed_pair_capture packed_pair_whole
returns-clause-ended c = behind-ends (codes "TS2BITS2") pair_body

pub returns-clause-capped : goal.returns-clause-capped
returns-clause-capped c = capped-grows
