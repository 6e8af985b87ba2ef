use Rattle.bus_formats.specs.Packed.{packed_arrival_capture, pair_body}
use Rattle.bus_calls.proofs.HeadedLemmas.{head-alone}
use Rattle.bus_calls.proofs.TwoLinesLemmas.{no_pair_body}
use Rattle.bus_calls.proofs.arrivals.ClockAnalyserCaptureKind.read_head.Goals as goal

pub returns : goal.returns
returns g c =
    head-alone packed_arrival_capture pair_body c.arrivals_are_head_and_body.ensures.headed _ c.of_arrivals.result
    c.args.head.now c.told-head c.in_ok-read.ensures c.of_arrivals.ensures no_pair_body
