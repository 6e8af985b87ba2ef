-- One report more is seen.
use Rattle.std.proofs.Common.{◌≡◌, ℕ, suc, ◌<◌, List, [], ◌∷◌, ◌++◌, length, Some, refl, ap, ◌∙◌, arith}
use Rattle.std.specs.List.{filter_map, cons_option}
use Rattle.std.proofs.lemmas.List.{length_push, take-append-le}
use Rattle.std.proofs.lemmas.List.Elements.{filter_map-append}
use Rattle.std.proofs.Math.Seq.{take-append_seam}
use Rattle.circular_buffer.proofs.Places.{slice_get-append_left, slice_get-append_right}
use Rattle.bus_line.specs.LineReport.{LineReport}
use Rattle.bus_line.specs.Due.{places}
use Rattle.bus_dictionary.specs.Entry.{FrameType}
use Rattle.bus_pairing.specs.Seen.{seen_of, seen_number, seen}
use Rattle.bus_line.proofs.DueMoreLemmas.{filter_map-places}

-- the reports before keep their numbers
before-same : (d : List FrameType) (rs : List LineReport) (r : LineReport) (i : ℕ) → i < length rs →
    seen_number d (rs ++ r ∷ []) i ≡ seen_number d rs i
before-same d rs r i before =
    rw (slice_get-append_left rs (r ∷ []) i before, take-append-le i rs (r ∷ []) (omega (arith, before))) refl

new-number : (d : List FrameType) (rs : List LineReport) (r : LineReport) →
    seen_number d (rs ++ r ∷ []) (length rs) ≡ Some (seen_of d rs r)
new-number d rs r = rw (slice_get-append_right rs (r ∷ []) (length rs) 0 (omega arith), take-append_seam rs (r ∷ []))
    refl

pub seen-more : (d : List FrameType) (rs : List LineReport) (r : LineReport) →
    seen d (rs ++ r ∷ []) ≡ seen d rs ++ seen_of d rs r ∷ []
seen-more d rs r =
    let f = seen_number d (rs ++ r ∷ []) in
    let count : length (rs ++ r ∷ []) ≡ suc (length rs) = omega (arith, length_push rs r) in
    rw count
    (filter_map-append f (places (length rs)) (length rs ∷ [])
    ∙ (ap (λ xs. xs ++ filter_map f (length rs ∷ []))
    (filter_map-places f (seen_number d rs) (length rs) (before-same d rs r))
    ∙ ap (λ o. seen d rs ++ cons_option o []) (new-number d rs r)))
