use Rattle.std.proofs.Common.{◌≡◌, true, false, refl, sym, ◌∙◌}
use Rattle.bus_formats.specs.Capture.{is_arrival, mark_arrival}
use Rattle.bus_bits.specs.Text.{is_space}
use Rattle.bus_formats.proofs.TextBitsLemmas.{values-more, values-stop, space_read, marked-some, marked-none}
use Rattle.bus_formats.proofs.text_arrivals.TextArrivals.step.Goals as goal

pub returns-in-Some-clause-given : goal.returns-in-Some-clause-given
returns-in-Some-clause-given c =
    λ xs clean.
    let mark = marked-some c.args.octet c.in-Some.arrival (sym c.in-Some.is ∙ c.marked.ensures) in
    let more = values-more is_arrival mark_arrival xs c.args.octet clean (rw mark.0 refl) in
    (more.0, more.1 ∙ rw (mark.0, mark.1) refl)

pub returns-then-is_skipped-clause-given : goal.returns-then-is_skipped-clause-given
returns-then-is_skipped-clause-given c =
    λ xs clean.
    let octet = c.args.octet in
    let space : is_space octet ≡ true = cc in
    let more = values-more is_arrival mark_arrival xs octet clean (space_read is_arrival octet space) in
    (more.0, more.1 ∙ rw (marked-none octet (sym c.in_default.is ∙ c.marked.ensures)) refl)

pub returns-else-is_skipped-clause-given : goal.returns-else-is_skipped-clause-given
returns-else-is_skipped-clause-given c =
    λ xs clean.
    let octet = c.args.octet in
    let no-mark = marked-none octet (sym c.in_default.is ∙ c.marked.ensures) in
    let no-space : is_space octet ≡ false = cc in
    values-stop is_arrival mark_arrival xs octet clean (rw no-mark no-space)
