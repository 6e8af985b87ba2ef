-- Arrivals that are put with the 1s that bring the second line to rest.
use Rattle.std.proofs.Common.{Bool, true, false, ◌≡◌, ℕ, ◌+◌, ◌<◌, ◌≤◌, List, [], ◌∷◌, ◌++◌, length, length-append}
use Rattle.std.proofs.Common.{refl, sym, ap, ◌∙◌, arith, subst, append_assoc, append-nil}
use Rattle.bus_tap.specs.Arrival.{Arrival}
use Rattle.bus_tap.specs.Rested.{IsRestAfter, fill, rested}
use Rattle.port1_c.specs.Rest.{PutsRested, arrival_told, arrivals_told, rest_told}
use Rattle.port1_c.specs.Tap.{PutsArrivals}
use Rattle.port1_c.specs.declared.arrival.Port1Arrival.{Port1Arrival}
use Rattle.port1_c.specs.declared.rest.Port1Rest.{Port1Rest}
use Rattle.port1_c.proofs.ClocksLemmas.{arrival_at, behind, told-none}

-- no more than fifteen are put in
pub few : (b : Bool) → length (fill b) ≤ 15
few true = omega arith
few false = omega arith

pub puts-none : (r : Port1Rest) (start ps : List Port1Arrival) (at : ℕ) → PutsRested r start ps at at r start 0
puts-none r start ps at =
    let same : (xs : List Arrival) → xs ++ arrivals_told ps at at ≡ xs =
    λ xs. ap (λ l. xs ++ l) (told-none ps at) ∙ append-nil xs in record {
      ys = [];
      number = refl;
      fits = omega arith;
      put = refl;
      rested = λ xs after. ap (rested r.most) (same xs) ∙ sym (append-nil (rested r.most xs));
      after = λ xs after. subst (IsRestAfter (rest_told r)) (sym (same xs)) after;
    }

pub puts-more : (old now new : Port1Rest) (start ps out next : List Port1Arrival) (at i count more : ℕ)
    (fill : List Arrival)
    → at ≤ i → i < length ps → now.most ≡ old.most → length start ≡ length out → more ≤ length start
    → PutsRested old start ps at i now out count
    → ((zs : List Arrival) → IsRestAfter (rest_told now) zs →
    rested now.most (zs ++ arrival_told (arrival_at ps i) ∷ [])
    ≡ rested now.most zs ++ (arrival_told (arrival_at ps i) ∷ fill))
    → ((zs : List Arrival) → IsRestAfter (rest_told now) zs →
    IsRestAfter (rest_told new) (zs ++ arrival_told (arrival_at ps i) ∷ []))
    → more ≡ count + length (arrival_told (arrival_at ps i) ∷ fill)
    → PutsArrivals count out (arrival_told (arrival_at ps i) ∷ fill) next
    → PutsRested old start ps at (i + 1) new next more
puts-more old now new start ps out next at i count more fill from within most long room before step on counted puts =
    let xs : List Arrival = arrival_told (arrival_at ps i) ∷ fill in record {
      ys = before.ys ++ xs;
      number = omega (arith, counted, before.number, length-append before.ys xs);
      fits = omega (arith, counted, room, before.number, length-append before.ys xs);
      put = puts.put start before.ys before.number long before.put;
      rested = λ zs after.
          let ws : List Arrival = zs ++ arrivals_told ps at i in
          ap (rested old.most) (sym (behind zs ps at i from within))
          ∙ ap (λ m. rested m (ws ++ arrival_told (arrival_at ps i) ∷ [])) (sym most)
          ∙ step ws (before.after zs after)
          ∙ ap (λ l. l ++ xs) (ap (λ m. rested m ws) most ∙ before.rested zs after)
          ∙ append_assoc (rested old.most zs) before.ys xs;
      after = λ zs after. subst (IsRestAfter (rest_told new)) (behind zs ps at i from within)
          (on (zs ++ arrivals_told ps at i) (before.after zs after));
    }
