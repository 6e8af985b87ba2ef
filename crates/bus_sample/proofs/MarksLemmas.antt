-- The text of arrivals, with more of them.
use Rattle.std.proofs.Common.{◌≡◌, ℕ, suc, ◌+◌, ◌%◌, ◌<◌, ◌≤◌, ◌==◌, false, List, [], ◌∷◌, ◌++◌}
use Rattle.std.proofs.Common.{length, map, refl, sym, ap, ◌∙◌, arith, append-nil, append_assoc, Option}
use Rattle.std.proofs.lemmas.Nat.{mod_below}
use Rattle.std.proofs.lemmas.List.{replicate-append-replicate}
use Rattle.bus_tap.specs.Arrival.{Arrival}
use Rattle.bus_tap.proofs.EachLemmas.{each-more, alone-front, alone-last, length-more}
use Rattle.arrayvec.specs.ArrayVec.{ArrayVec, array_vec_len}
use Rattle.std.proofs.Common.{length-append, replicate, ◌*◌}
use Rattle.std.specs.List.{flat_map}
use Rattle.std.specs.Prelude.{bit_or}
use Rattle.std.proofs.lemmas.Grind.{flat_map-append}
use Rattle.bus_tap.specs.Blocks.{block_arrivals, edges_in, ones_in}
use Rattle.bus_tap.specs.Sampled.{Timed, bits_of_edges, with_sample}
use Rattle.bus_tap.specs.Stopped.{IsStopAfter, behind, with_stops}
use Rattle.bus_tap.specs.declared.block.EdgeBlock.{EdgeBlock}
use Rattle.bus_tap.proofs.BlockLemmas.{arrivals-ones, none-in}
use Rattle.bus_tap.proofs.OnesLemmas.{ones-few}
use Rattle.bus_tap.proofs.StopLemmas.{stops-more}
use Rattle.bus_text.specs.Pages.{Pages}
use Rattle.bus_text.specs.Put.{TextStopsAt}
use Rattle.bus_text.proofs.PagesLemmas.{cuts-more, pages-more}
use Rattle.bus_sample.specs.Marks.{mark, mark_at, marks_text, whole_text, line_end}
use Rattle.bus_sample.specs.Internal.Runs.{HasMarked, HasText}
use Rattle.bus_sample.specs.declared.marks.Marks.{Marks}

pub marks-more : (xs : List Arrival) (x : Arrival) →
    marks_text (xs ++ x ∷ []) ≡ marks_text xs ++ (mark x ∷ line_end (suc (length xs)))
marks-more xs x =
    each-more (mark_at (xs ++ x ∷ [])) (mark_at xs) xs x
    (λ i inside. ap (λ a. map mark a ++ line_end (suc i)) (alone-front xs (x ∷ []) i inside))
    ∙ ap (λ a. marks_text xs ++ (map mark a ++ line_end (suc (length xs)))) (alone-last xs x)

pub marks-grow : (xs ys : List Arrival) → (rest : List ℕ) × (marks_text (xs ++ ys) ≡ marks_text xs ++ rest)
marks-grow xs [] = ([], ap marks_text (append-nil xs) ∙ sym (append-nil (marks_text xs)))
marks-grow xs (y ∷ ys) =
    let more = marks-grow (xs ++ y ∷ []) ys in
    let first = mark y ∷ line_end (suc (length xs)) in (
      first ++ more.0,
      ap marks_text (sym (append_assoc xs (y ∷ []) ys)) ∙ (more.1
          ∙ (ap (λ t. t ++ more.0) (marks-more xs y) ∙ append_assoc (marks_text xs) first more.0)),
    )

-- where a line ends
pub no-line-end : (n : ℕ) → n % 64 < 63 → (line_end (suc n) ≡ []) × (suc n % 64 ≡ n % 64 + 1)
no-line-end n inside =
    let next : suc n % 64 ≡ n % 64 + 1 = omega (arith, inside) in
    let is : (suc n % 64 == 0) ≡ false = grind (arith, next) in
    (rw is refl, next)

pub a-line-end : (n : ℕ) → 63 ≤ n % 64 → (line_end (suc n) ≡ 10 ∷ []) × (suc n % 64 ≡ 0)
a-line-end n last =
    let next : suc n % 64 ≡ 0 = omega (arith, last, mod_below n 64 (omega arith)) in
    (rw next refl, next)

module _ (start now : Option (List ℕ)) (old new : Marks) (xs : List Arrival) (x : Arrival)
    (marked : HasText start now old xs) (written : new.page.written ≡ old.page.written) where
  -- the page goes on by the mark, and perhaps a line end
  put-more : (end : List ℕ) → line_end (suc (length xs)) ≡ end
      → new.page.text.items ≡ old.page.text.items ++ (mark x ∷ end)
      → Pages start now new.page.text new.page.written (marks_text (xs ++ x ∷ []))
  put-more end is items =
      let text : marks_text (xs ++ x ∷ []) ≡ marks_text xs ++ (mark x ∷ end) =
      marks-more xs x ∙ ap (λ e. marks_text xs ++ (mark x ∷ e)) is in
      rw (text, written)
      (pages-more start now old.page.text new.page.text old.page.written (marks_text xs) (mark x ∷ end) items
      marked.page)

  pub marked-inside : old.column < 63 → new.column ≡ old.column + 1
      → new.page.text.items ≡ old.page.text.items ++ mark x ∷ [] → HasText start now new (xs ++ x ∷ [])
  marked-inside inside column items =
      let none = no-line-end (length xs) (omega (arith, marked.column, inside)) in record {
        page = put-more [] none.0 items;
        column = column ∙ (ap (λ n. n + 1) marked.column ∙ (sym none.1 ∙ ap (λ n. n % 64) (sym (length-more xs x))));
      }

  pub marked-last : 63 ≤ old.column → new.column ≡ 0
      → new.page.text.items ≡ (old.page.text.items ++ mark x ∷ []) ++ 10 ∷ [] → HasText start now new (xs ++ x ∷ [])
  marked-last last column items =
      let end = a-line-end (length xs) (omega (arith, marked.column, last)) in record {
        page = put-more (10 ∷ []) end.0 (items ∙ append_assoc old.page.text.items (mark x ∷ []) (10 ∷ []));
        column = column ∙ (sym end.1 ∙ ap (λ n. n % 64) (sym (length-more xs x)));
      }

-- the end of the last line
module _ (start now : Option (List ℕ)) (old : Marks) (xs : List Arrival) (marked : HasText start now old xs) where
  pub ended-none : old.column ≡ 0 → Pages start now old.page.text old.page.written (whole_text xs)
  ended-none none =
      let is : length xs % 64 ≡ 0 = sym marked.column ∙ none in
      rw is (rw (append-nil (marks_text xs)) marked.page)

  pub ended-some : (new : ArrayVec ℕ) → 0 < old.column → new.items ≡ old.page.text.items ++ 10 ∷ []
      → Pages start now new old.page.written (whole_text xs)
  ended-some new some items =
      let is : (length xs % 64 == 0) ≡ false = grind (arith, some, marked.column) in
      rw is
      (pages-more start now old.page.text new old.page.written (marks_text xs) (10 ∷ []) items marked.page)

-- a bit is put behind what comes before it
pub marked-next : (start now : Option (List ℕ)) (old new : Marks) (most : ℕ) (ts : List Timed) (t : Timed)
    (fill : List Arrival) → HasMarked start now old most ts →
    with_stops old.stops.most (ts ++ t ∷ []) ≡ with_stops old.stops.most ts ++ (fill ++ t.1 ∷ []) →
    HasText start now new ((with_stops most ts ++ fill) ++ t.1 ∷ []) → IsStopAfter new.stops (ts ++ t ∷ []) →
    new.stops.most ≡ old.stops.most → HasMarked start now new most (ts ++ t ∷ [])
marked-next start now old new most ts t fill marked next text after same =
    let is : with_stops most (ts ++ t ∷ []) ≡ (with_stops most ts ++ fill) ++ t.1 ∷ [] =
    (rw (marked.given) at next) ∙ sym (append_assoc (with_stops most ts) fill (t.1 ∷ [])) in record {
      page = rw is text.page;
      column = text.column ∙ ap (λ xs. length xs % 64) (sym is);
      stops = after;
      given = same ∙ marked.given;
    }

pub marked-text : (start now : Option (List ℕ)) (marks : Marks) (most : ℕ) (ts : List Timed) →
    HasMarked start now marks most ts → HasText start now marks (with_stops most ts)
marked-text start now marks most ts marked = record { page = marked.page; column = marked.column }

pub ones-more : (n : ℕ) (x : Arrival) → replicate n x ++ x ∷ [] ≡ replicate (n + 1) x
ones-more n x = replicate-append-replicate n 1 x

-- with more bits their text goes on
pub stops-grow : (most : ℕ) (ts us : List Timed) →
    (rest : List Arrival) × (with_stops most (ts ++ us) ≡ with_stops most ts ++ rest)
stops-grow most ts [] = ([], ap (with_stops most) (append-nil ts) ∙ sym (append-nil (with_stops most ts)))
stops-grow most ts (u ∷ us) =
    let more = stops-grow most (ts ++ u ∷ []) us in (
      behind most ts u ++ more.0,
      ap (with_stops most) (sym (append_assoc ts (u ∷ []) us)) ∙ (more.1
          ∙ (ap (λ xs. xs ++ more.0) (stops-more most ts u)
          ∙ append_assoc (with_stops most ts) (behind most ts u) more.0)),
    )

pub text-grows : (most : ℕ) (ts us : List Timed) → (rest : List ℕ)
    × (marks_text (with_stops most (ts ++ us)) ≡ marks_text (with_stops most ts) ++ rest)
text-grows most ts us =
    let more = stops-grow most ts us in
    let text = marks-grow (with_stops most ts) more.0 in
    (text.0, ap marks_text more.1 ∙ text.1)

-- of a text that was cut, what would have followed says nothing
pub cut-before : (start now : Option (List ℕ)) (most : ℕ) (ts us vs : List Timed) (sent : ℕ) → vs ≡ ts ++ us →
    TextStopsAt start now (marks_text (with_stops most ts)) sent →
    TextStopsAt start now (marks_text (with_stops most vs)) sent
cut-before start now most ts us vs sent is cut =
    let more = text-grows most ts us in
    rw (is, more.1) (cuts-more start now _ more.0 sent cut)

-- the bits of a block, as far as they are put
abbrev pub bits_in : ℕ → EdgeBlock → ℕ → List Timed
bits_in from edges i = with_sample (from + i) (bits_of_edges (edges_in edges i))

pub record HasPut (from : ℕ) (edges : EdgeBlock) (old new : Marks) (left : ℕ) : Type 0 where
  pub done : List ℕ
  pub ones : ones_in (bit_or edges.first.rises edges.second.rises) ≡ done ++ ones_in left
  pub put : (start now : Option (List ℕ)) (most : ℕ) (ts : List Timed) → HasMarked start now old most ts
      → HasMarked start now new most (ts ++ flat_map (bits_in from edges) done)
  pub few : array_vec_len new.page.text ≤ array_vec_len old.page.text + 64 * length done
  pub written : new.page.written ≡ old.page.written

pub put-first : (from : ℕ) (edges : EdgeBlock) (marks : Marks) →
    HasPut from edges marks marks (bit_or edges.first.rises edges.second.rises)
put-first from edges marks = record {
  done = [];
  ones = refl;
  put = λ start now most ts marked. rw (append-nil ts) marked;
  few = omega arith;
  written = refl;
}

module _ (from : ℕ) (edges : EdgeBlock) (old mid : Marks) (left rest place : ℕ)
    (put : HasPut from edges old mid left) (first : ones_in left ≡ place ∷ ones_in rest) where
  abbrev pub next_done : List ℕ
  next_done = put.done ++ place ∷ []

  next-ones : ones_in (bit_or edges.first.rises edges.second.rises) ≡ next_done ++ ones_in rest
  next-ones = put.ones ∙ (ap (λ l. put.done ++ l) first ∙ sym (append_assoc put.done (place ∷ []) (ones_in rest)))

  next-bits : (ts : List Timed) → (ts ++ flat_map (bits_in from edges) put.done) ++ bits_in from edges place
      ≡ ts ++ flat_map (bits_in from edges) next_done
  next-bits ts =
      append_assoc ts (flat_map (bits_in from edges) put.done) (bits_in from edges place)
      ∙ ap (λ us. ts ++ us) (sym (flat_map-append (bits_in from edges) put.done (place ∷ [])
      ∙ ap (λ us. flat_map (bits_in from edges) put.done ++ us) (append-nil (bits_in from edges place))))

  pub put-room : array_vec_len old.page.text + 4096 ≤ 16384 → array_vec_len mid.page.text + 64 ≤ 16384
  put-room room =
      omega (
        arith,
        room,
        put.few,
        ap length put.ones,
        length-append put.done (ones_in left),
        ap length first,
        ones-few (bit_or edges.first.rises edges.second.rises),
      )

  pub put-next : (new : Marks) →
      ((start now : Option (List ℕ)) (most : ℕ) (ts : List Timed) → HasMarked start now mid most ts →
      HasMarked start now new most (ts ++ bits_in from edges place)) →
      array_vec_len new.page.text ≤ array_vec_len mid.page.text + 64 → new.page.written ≡ mid.page.written →
      HasPut from edges old new rest
  put-next new more few written = record {
    done = next_done;
    ones = next-ones;
    put = λ start now most ts marked. rw (← next-bits ts) (more start now most _ (put.put start now most ts marked));
    few = omega (arith, few, put.few, length-append put.done (place ∷ []));
    written = written ∙ put.written;
  }

module _ (from : ℕ) (edges : EdgeBlock) (old new : Marks) (left : ℕ)
    (put : HasPut from edges old new left) (end : left ≡ 0) where
  all-done : ones_in (bit_or edges.first.rises edges.second.rises) ≡ put.done
  all-done = put.ones ∙ (ap (λ w. put.done ++ ones_in w) end
      ∙ (ap (λ l. put.done ++ l) none-in ∙ append-nil put.done))

  pub put-all : (start now : Option (List ℕ)) (most : ℕ) (ts : List Timed) → HasMarked start now old most ts →
      HasMarked start now new most (ts ++ block_arrivals from edges)
  put-all start now most ts marked = rw (arrivals-ones from edges, all-done) (put.put start now most ts marked)

  pub put-most : array_vec_len new.page.text ≤ array_vec_len old.page.text + 4096
  put-most = omega (arith, put.few, ap length all-done, ones-few (bit_or edges.first.rises edges.second.rises))
