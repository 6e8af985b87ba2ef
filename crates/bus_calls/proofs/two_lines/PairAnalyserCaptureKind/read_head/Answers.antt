use Rattle.bus_formats.specs.Packed.{packed_pair_capture, pair_body}
use Rattle.bus_calls.proofs.HeadedLemmas.{head-alone}
use Rattle.bus_calls.proofs.TwoLinesLemmas.{no_pair_body}
use Rattle.bus_calls.proofs.two_lines.PairAnalyserCaptureKind.read_head.Goals as goal

pub returns : goal.returns
returns g c =
    head-alone packed_pair_capture pair_body c.pairs_are_head_and_body.ensures.headed _ c.new.result c.args.head.now
    c.told-head c.in_ok-read.ensures c.new.ensures no_pair_body
