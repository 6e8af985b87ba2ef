use Rattle.std.proofs.Common.{refl}
use Rattle.bus_formats.specs.Packed.{packed_arrival_capture, pair_body}
use Rattle.bus_formats.proofs.CaptureLemmas.{capped-grows}
use Rattle.bus_calls.specs.Captures.{form_of_arrivals}
use Rattle.bus_calls.proofs.HeadedLemmas.{head-clean}
use Rattle.bus_calls.proofs.SeenOnLemmas.{seen-on}
use Rattle.bus_calls.proofs.ArrivalsLemmas.{fed-on, numbered-arrivals, same_arrivals, shown-at, shown-more}
use Rattle.bus_calls.proofs.arrivals.ClockAnalyserCaptureKind.laws.Goals as goal

pub returns : goal.returns
returns g c =
    let grow = c.arrival_captures_grow.ensures in
    let head = c.arrivals_are_head_and_body.ensures in
    let more = c.arrivals_are.ensures.grow in
    record {
      form = record {
        blank = refl;
        text = grow.text;
        packed = grow.packed;
        ended = grow.ended;
        same = same_arrivals;
        short = head.short;
        places = capped-grows;
        fed_none = λ rest. refl;
        fed = fed-on;
        silent = λ origin longest. refl;
        seen = λ d longest origin.
            seen-on form_of_arrivals d longest origin (shown-at more d longest origin)
            (shown-more more d longest origin);
      };
      reports = refl;
      placed = numbered-arrivals g.C.Check.check;
      clean = head-clean packed_arrival_capture pair_body head.headed (λ n xs left h. h.clean);
    }
