use Rattle.std.proofs.Common.{[], ◌∷◌, ◌++◌, ◌+◌, length, refl}
use Rattle.bus_formats.specs.Packed.{packed_pair_capture, pair_body}
use Rattle.bus_line.specs.LineReport.{merged}
use Rattle.bus_pairing.specs.Seen.{all_seen_at}
use Rattle.bus_calls.specs.Captures.{form_of_two}
use Rattle.bus_calls.proofs.HeadedLemmas.{head-clean}
use Rattle.bus_calls.proofs.SeenOnLemmas.{seen-on}
use Rattle.bus_calls.proofs.TwoLinesLemmas.{same_pairs, placed-pairs}
use Rattle.bus_calls.proofs.two_lines.PairAnalyserCaptureKind.laws.Goals as goal

pub returns : goal.returns
returns g c =
    let grow = c.pair_captures_grow.ensures in
    let head = c.pairs_are_head_and_body.ensures in
    record {
      form = record {
        blank = refl;
        text = grow.text;
        packed = grow.packed;
        ended = grow.ended;
        same = same_pairs;
        short = head.short;
        places = grow.capped;
        fed_none = λ rest. refl;
        fed = λ rest b more. record { taken = more; is = refl };
        silent = λ origin longest. refl;
        seen = λ d longest origin. seen-on form_of_two d longest origin
            (λ ps p. all_seen_at d (merged origin longest (ps ++ p ∷ [])) (origin + length ps))
            (c.pairs_grow.ensures.grows d longest origin);
      };
      reports = refl;
      placed = λ a b h. placed-pairs a.first.place a.first.origin b h.first.has_taken.place;
      clean = head-clean packed_pair_capture pair_body head.headed (λ n xs left h. h.clean);
    }
