use Rattle.std.proofs.Common.{◌≡◌, ◌∙◌, ℕ, Option, Some, None, option_map, refl, ap}
use Rattle.bus_line.specs.Report.{Report, moved}
use Rattle.bus_examples.specs.Live.{closes_for}
use Rattle.bus_examples.proofs.live.closes_frame_of.Goals as goal

-- wherever the first bit stands
moved_is_same : (station origin : ℕ) (r : Option Report) →
    closes_for station (option_map (moved origin) r) ≡ closes_for station r
moved_is_same station origin None = refl
moved_is_same station origin (Some r) = refl

pub returns-clause-closes : goal.returns-clause-closes
returns-clause-closes g c b h =
    c.is_frame_of.ensures ∙ ap (closes_for c.args.station) (c.in_ok-push.ensures.answer b h)
    ∙ moved_is_same c.args.station c.args.decoder.now.origin _
