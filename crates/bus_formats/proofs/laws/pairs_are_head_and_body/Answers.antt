use Rattle.std.proofs.Common.{codes, refl}
use Rattle.bus_formats.specs.Packed.{pair_body, packed_pair_capture, packed_pair_whole}
use Rattle.bus_formats.proofs.PackedLemmas.{behind-headed, behind-short, letters-few}
use Rattle.bus_formats.proofs.laws.pairs_are_head_and_body.Goals as goal

pub returns-clause-headed : goal.returns-clause-headed
unfolding packed_pair_capture packed_pair_whole
returns-clause-headed c = behind-headed (codes "TS2BITS2") pair_body (letters-few (codes "TS2BITS2") refl)

pub returns-clause-short : goal.returns-clause-short
unfolding packed_pair_capture packed_pair_whole
returns-clause-short c = behind-short (codes "TS2BITS2") pair_body
