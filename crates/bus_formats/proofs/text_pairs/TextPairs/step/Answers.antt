use Rattle.std.proofs.Common.{◌≡◌, true, false, refl, ◌∙◌}
use Rattle.bus_formats.specs.Capture.{is_pair, mark_pair}
use Rattle.bus_bits.specs.Text.{is_space}
use Rattle.bus_formats.proofs.TextBitsLemmas.{values-more, values-stop, mark_is_pair, mark_by_quarter, mark_pair_is}
use Rattle.bus_formats.proofs.TextBitsLemmas.{space_read}
use Rattle.bus_formats.proofs.text_pairs.TextPairs.step.Goals as goal

pub returns-then-octet-clause-given : goal.returns-then-octet-clause-given
returns-then-octet-clause-given c =
    λ xs clean.
    let octet = c.args.octet in
    let mark = mark_is_pair octet c.if-octet.true in
    let more = values-more is_pair mark_pair xs octet clean (rw mark refl) in
    (more.0, more.1 ∙ rw (mark, mark_pair_is octet c.if-octet.true) refl)

pub returns-then-is_skipped-clause-given : goal.returns-then-is_skipped-clause-given
returns-then-is_skipped-clause-given c =
    λ xs clean.
    let octet = c.args.octet in
    let no-mark = mark_by_quarter octet c.if-octet.false in
    let space : is_space octet ≡ true = cc in
    let more = values-more is_pair mark_pair xs octet clean (space_read is_pair octet space) in
    (more.0, more.1 ∙ rw no-mark refl)

pub returns-else-is_skipped-clause-given : goal.returns-else-is_skipped-clause-given
returns-else-is_skipped-clause-given c =
    λ xs clean.
    let octet = c.args.octet in
    let no-mark = mark_by_quarter octet c.if-octet.false in
    let no-space : is_space octet ≡ false = cc in
    values-stop is_pair mark_pair xs octet clean (rw no-mark no-space)
