use Rattle.bus_formats.proofs.PairsLemmas.{four-marks}
use Rattle.bus_formats.proofs.laws.octet_is_four_marks.Goals as goal

pub returns : goal.returns
returns c = four-marks
