use Rattle.std.proofs.Common.{[], ◌∷◌}
use Rattle.bus_formats.specs.Packed.{packed_capture, packed_body}
use Rattle.bus_calls.proofs.HeadedLemmas.{octet-read}
use Rattle.bus_calls.proofs.one_line.AnalyserCaptureKind.decode_octet.Goals as goal

pub returns : goal.returns
returns g c = λ xs is-body.
    octet-read packed_capture packed_body c.packed_is_head_and_body.ensures.headed (λ b. b.items) c.step.new.self
    (c.args.octet ∷ []) c.step.result c.step.ensures.given is-body
