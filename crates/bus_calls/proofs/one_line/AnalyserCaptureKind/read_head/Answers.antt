use Rattle.bus_formats.specs.Packed.{packed_capture, packed_body}
use Rattle.bus_calls.proofs.HeadedLemmas.{head-alone}
use Rattle.bus_calls.proofs.OneLineLemmas.{no_body}
use Rattle.bus_calls.proofs.one_line.AnalyserCaptureKind.read_head.Goals as goal

pub returns : goal.returns
returns g c =
    head-alone packed_capture packed_body c.packed_is_head_and_body.ensures.headed _ c.new.result c.args.head.now
    c.told-head c.in_ok-read.ensures c.new.ensures no_body
