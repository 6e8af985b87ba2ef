use Rattle.std.proofs.Common.{[], ◌∷◌, ◌++◌, ◌+◌, length, refl}
use Rattle.bus_formats.specs.Packed.{packed_capture, packed_body}
use Rattle.std.specs.Option.{option_to_list}
use Rattle.bus_line.specs.Due.{placed}
use Rattle.bus_line.specs.LineReport.{of_line}
use Rattle.bus_pairing.specs.Seen.{seen_at}
use Rattle.bus_calls.specs.Captures.{form_of_one}
use Rattle.bus_calls.proofs.HeadedLemmas.{head-clean}
use Rattle.bus_calls.proofs.SeenOnLemmas.{seen-on}
use Rattle.bus_calls.proofs.OneLineLemmas.{same_bits}
use Rattle.bus_calls.proofs.one_line.AnalyserCaptureKind.laws.Goals as goal

pub returns : goal.returns
returns g c =
    let grow = c.captures_grow.ensures in
    let head = c.packed_is_head_and_body.ensures in
    record {
      form = record {
        blank = refl;
        text = grow.text;
        packed = grow.packed;
        ended = grow.ended;
        same = same_bits;
        short = head.short;
        places = grow.capped;
        fed_none = λ rest. refl;
        fed = λ rest b more. record { taken = more; is = refl };
        silent = λ origin longest. refl;
        seen = λ d longest origin. seen-on form_of_one d longest origin
            (λ b bit. option_to_list (seen_at d (of_line (placed origin longest (b ++ bit ∷ []))) (origin + length b)))
            (c.seen_grows.ensures.grows d longest origin);
      };
      reports = refl;
      placed = λ a b h. h.decoder.has_taken.place;
      clean = head-clean packed_capture packed_body head.headed (λ n xs left h. h.clean);
    }
