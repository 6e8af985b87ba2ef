-- The text of arrivals is a capture of them.
use Rattle.std.proofs.Common.{◌≡◌, ℕ, suc, ◌%◌, ◌==◌, ◌||◌, Bool, true, false, if◌then◌else◌, List, [], ◌∷◌, ◌++◌}
use Rattle.std.proofs.Common.{length, map, refl, sym, ap, ◌∙◌, None, arith, append-nil, append_assoc, ◌+◌, subst}
use Rattle.std.proofs.Common.{length-append}
use Rattle.std.specs.Prelude.{filter, nat_lt, eqb, Some, take}
use Rattle.std.specs.List.{prefix_len}
use Rattle.std.proofs.lemmas.List.Folds.{prefix_len-append}
use Rattle.std.proofs.lemmas.List.{take_all, map-append}
use Rattle.std.proofs.lemmas.Grind.{common_steps}
use Rattle.bus_formats.specs.Capture.{is_arrival, mark_arrival, text_arrivals, text_arrivals_fault, bad_mark}
use Rattle.bus_bits.specs.Text.{is_space, front_by}
use Rattle.bus_line.specs.declared.line.Line.TheVariants.{First, Second}
use Rattle.bus_tap.specs.Arrival.{Arrival}
use Rattle.bus_sample.specs.Marks.{mark, marks_text, whole_text, line_end}
use Rattle.bus_sample.specs.Laws.{captured}
use Rattle.bus_sample.proofs.MarksLemmas.{marks-more}

abbrev good : ℕ → Bool
good x = is_arrival x || is_space x

-- every octet is a mark or a space, and these are the bits of the marks
record Reads (text : List ℕ) (xs : List Arrival) : Type 0 where
  pub front : prefix_len good text ≡ length text
  pub marks : map mark_arrival (filter is_arrival text) ≡ map captured xs

front-both : (xs ys : List ℕ) → prefix_len good xs ≡ length xs → prefix_len good ys ≡ length ys →
    prefix_len good (xs ++ ys) ≡ length (xs ++ ys)
front-both xs ys first second =
    let same : eqb (prefix_len good xs) (length xs) ≡ true = grind (arith, first) in
    prefix_len-append good xs ys ∙ (rw same (ap (λ n. length xs + n) second) ∙ sym (length-append xs ys))

filter-both : (xs ys : List ℕ) → filter is_arrival (xs ++ ys) ≡ filter is_arrival xs ++ filter is_arrival ys
filter-both xs ys = grind (arith, common_steps)

reads-both : (text more : List ℕ) (xs ys : List Arrival) → Reads text xs → Reads more ys →
    Reads (text ++ more) (xs ++ ys)
reads-both text more xs ys one two = record {
  front = front-both text more one.front two.front;
  marks = ap (map mark_arrival) (filter-both text more)
      ∙ (map-append mark_arrival (filter is_arrival text) (filter is_arrival more)
      ∙ (ap (λ l. l ++ map mark_arrival (filter is_arrival more)) one.marks
      ∙ (ap (λ l. map captured xs ++ l) two.marks ∙ sym (map-append captured xs ys))));
}

reads-mark : (x : Arrival) → Reads (mark x ∷ []) (x ∷ [])
reads-mark (First, false) = record { front = refl; marks = refl }
reads-mark (First, true) = record { front = refl; marks = refl }
reads-mark (Second, false) = record { front = refl; marks = refl }
reads-mark (Second, true) = record { front = refl; marks = refl }

reads-end : (b : Bool) → Reads (if b then 10 ∷ [] else []) []
reads-end true = record { front = refl; marks = refl }
reads-end false = record { front = refl; marks = refl }

reads-nothing : (b : Bool) → Reads (if b then [] else 10 ∷ []) []
reads-nothing true = record { front = refl; marks = refl }
reads-nothing false = record { front = refl; marks = refl }

reads-marks : (xs ys : List Arrival) → Reads (marks_text xs) xs → Reads (marks_text (xs ++ ys)) (xs ++ ys)
reads-marks xs [] reads = rw (append-nil xs) reads
reads-marks xs (y ∷ ys) reads =
    let one = reads-both (mark y ∷ []) (line_end (suc (length xs))) (y ∷ []) []
    (reads-mark y) (reads-end (suc (length xs) % 64 == 0)) in
    let more : Reads (marks_text (xs ++ y ∷ [])) (xs ++ y ∷ []) =
    subst (λ t. Reads t (xs ++ y ∷ [])) (sym (marks-more xs y))
    (reads-both (marks_text xs) (mark y ∷ line_end (suc (length xs))) xs (y ∷ []) reads one) in
    subst (λ l. Reads (marks_text l) l) (append_assoc xs (y ∷ []) ys) (reads-marks (xs ++ y ∷ []) ys more)

reads-whole : (xs : List Arrival) → Reads (whole_text xs) xs
reads-whole xs =
    subst (Reads (whole_text xs)) (append-nil xs)
    (reads-both (marks_text xs) (if length xs % 64 == 0 then [] else 10 ∷ []) xs []
    (reads-marks [] xs (record { front = refl; marks = refl }))
    (reads-nothing (length xs % 64 == 0)))

reads-back : (text : List ℕ) (xs : List Arrival) → Reads text xs →
    (text_arrivals text ≡ map captured xs) × (text_arrivals_fault text ≡ None)
reads-back text xs reads =
    let all : front_by is_arrival text ≡ text =
    ap (λ n. take n text) reads.front ∙ take_all (length text) text (omega arith) in
    let none : nat_lt (length (front_by is_arrival text)) (length text) ≡ false = grind (arith, ap length all) in (
      ap (λ t. map mark_arrival (filter is_arrival t)) all ∙ reads.marks,
      ap (λ b. if b then Some (bad_mark (length (front_by is_arrival text))) else None) none,
    )

pub read-back : (xs : List Arrival) →
    (text_arrivals (whole_text xs) ≡ map captured xs) × (text_arrivals_fault (whole_text xs) ≡ None)
read-back xs = reads-back (whole_text xs) xs (reads-whole xs)
