-- The samples of octets, with one octet more.
use Rattle.std.proofs.Common.{refl, ◌≡◌, ℕ, suc, ◌+◌, ◌*◌, ◌/◌, ◌%◌, ◌<◌, ◌≤◌, List, [], ◌∷◌, ◌++◌}
use Rattle.std.proofs.Common.{length, take, drop, sym, ap, ◌∙◌, arith, append-nil, append_assoc, length-drop, inl, inr}
use Rattle.std.specs.List.{flat_map}
use Rattle.std.proofs.Math.Nat.{suc-mul}
use Rattle.std.proofs.lemmas.Nat.{div-add-mod', div-mul-add, mod_below, row_fits, div_below}
use Rattle.std.proofs.lemmas.List.{drop-append-le, take-append-le, take_all, drop_all}
use Rattle.std.proofs.lemmas.Bool.{cases_lt}
use Rattle.bus_line.specs.Due.{places}
use Rattle.bus_tap.proofs.EachLemmas.{places-same, places-more, length-more}
use Rattle.bus_tap.specs.Recorded.{record_at, record_number}
use Rattle.bus_sample.specs.Recording.{recorded, cut_record, run_of, size_of}
use Rattle.bus_sample.specs.declared.options.Form.{Form}
use Rattle.bus_sample.specs.declared.options.Form.TheVariants.{Samples}

module _ (form : Form) (xs : List ℕ) (x : ℕ) (some : 1 ≤ size_of form) where
  abbrev size : ℕ
  size = size_of form

  abbrev whole : ℕ
  whole = length xs / size

  abbrev more : List ℕ
  more = xs ++ x ∷ []

  split : whole * size + length xs % size ≡ length xs
  split = div-add-mod' (length xs) size

  within : whole * size ≤ length xs
  within = omega (arith, split)

  cut-length : length (cut_record form xs) ≡ length xs % size
  cut-length = omega (arith, split, length-drop (whole * size) xs)

  pub cut-short : length (cut_record form xs) < size
  cut-short = omega (arith, cut-length, mod_below (length xs) size some)

  -- the records before stay
  same-record : (k : ℕ) → k < whole → record_at size more k ≡ record_at size xs k
  same-record k inside =
      let fits : k * size + size ≤ whole * size = row_fits k size whole size inside (omega arith) in
      ap record_number
      (ap (take size) (drop-append-le (k * size) xs (x ∷ []) (omega (arith, fits, within)))
      ∙ take-append-le size (drop (k * size) xs) (x ∷ [])
      (omega (arith, fits, within, length-drop (k * size) xs)))

  same-run : (k : ℕ) → k < whole → run_of form (record_at size more k) ≡ run_of form (record_at size xs k)
  same-run k inside = ap (run_of form) (same-record k inside)

  abbrev run_at : List ℕ → ℕ → List ℕ
  run_at ys k = run_of form (record_at size ys k)

  -- the octet does not end a record
  module _ (part : length (cut_record form xs) + 1 < size) where
    same-whole : length more / size ≡ whole
    same-whole =
        let count : length more ≡ whole * size + (length xs % size + 1) = omega (arith, split, length-more xs x) in
        ap (λ n. n / size) count
        ∙ div-mul-add whole size (length xs % size + 1) (omega (arith, part, cut-length))

    pub part-cut : cut_record form more ≡ cut_record form xs ++ x ∷ []
    part-cut = ap (λ n. drop (n * size) more) same-whole ∙ drop-append-le (whole * size) xs (x ∷ []) within

    pub part-recorded : recorded form more ≡ recorded form xs
    part-recorded =
        ap (λ n. flat_map (run_at more) (places n)) same-whole
        ∙ places-same (run_at more) (run_at xs) whole same-run

  -- it does
  module _ (last : length (cut_record form xs) + 1 ≡ size) where
    all : length more ≡ suc whole * size
    all = omega (arith, split, length-more xs x, last, cut-length, suc-mul whole size)

    one-more : length more / size ≡ suc whole
    one-more =
        let count : length more ≡ suc whole * size + 0 = omega (arith, all) in
        ap (λ n. n / size) count ∙ div-mul-add (suc whole) size 0 some

    pub whole-cut : cut_record form more ≡ []
    whole-cut = ap (λ n. drop (n * size) more) one-more ∙ drop_all (suc whole * size) more (omega (arith, all))

    new-record : record_at size more whole ≡ record_number (cut_record form xs ++ x ∷ [])
    new-record =
        ap record_number
        (ap (take size) (drop-append-le (whole * size) xs (x ∷ []) within)
        ∙ take_all size (cut_record form xs ++ x ∷ [])
        (omega (arith, last, length-more (cut_record form xs) x)))

    pub whole-recorded : recorded form more
        ≡ recorded form xs ++ run_of form (record_number (cut_record form xs ++ x ∷ []))
    whole-recorded =
        ap (λ n. flat_map (run_at more) (places n)) one-more
        ∙ (places-more (run_at more) (run_at xs) whole same-run
        ∙ ap (λ n. recorded form xs ++ run_of form n) new-record)

-- no octets
no-records : (size : ℕ) → 1 ≤ size → 0 / size ≡ 0
no-records size some =
    let less : 0 / size < 1 = div_below 0 size 1 some (omega (arith, some)) in
    omega (arith, less)

pub recorded-none : (form : Form) → 1 ≤ size_of form → recorded form [] ≡ []
recorded-none form some =
    ap (λ n. flat_map (λ k. run_of form (record_at (size_of form) [] k)) (places n)) (no-records (size_of form) some)

pub cut-none : (form : Form) → cut_record form [] ≡ []
cut-none form = drop_all (0 / size_of form * size_of form) [] (omega arith)

-- octets that come later change no sample
pub recorded-grows : (form : Form) (xs zs : List ℕ) → 1 ≤ size_of form →
    (rest : List ℕ) × (recorded form (xs ++ zs) ≡ recorded form xs ++ rest)
recorded-grows form xs [] some = ([], ap (recorded form) (append-nil xs) ∙ sym (append-nil (recorded form xs)))
recorded-grows form xs (z ∷ zs) some =
    let later = recorded-grows form (xs ++ z ∷ []) zs some in
    let is : recorded form (xs ++ z ∷ zs) ≡ recorded form (xs ++ z ∷ []) ++ later.0 =
    ap (recorded form) (sym (append_assoc xs (z ∷ []) zs)) ∙ later.1 in
    elim (cases_lt (length (cut_record form xs) + 1) (size_of form)) [
      | inl part ↦ (later.0, is ∙ ap (λ ss. ss ++ later.0) (part-recorded form xs z some part))
      | inr other ↦
          (let last : length (cut_record form xs) + 1 ≡ size_of form =
          omega (arith, other, cut-short form xs z some) in
          let run = run_of form (record_number (cut_record form xs ++ z ∷ [])) in (
            run ++ later.0,
            is ∙ (ap (λ ss. ss ++ later.0) (whole-recorded form xs z some last)
                ∙ append_assoc (recorded form xs) run later.0),
          ))
    ]

-- of samples of an octet each, these are the octets
one-cut : (xs : List ℕ) → cut_record (Samples 1) xs ≡ []
one-cut xs = nothing (cut_record (Samples 1) xs) (cut-short (Samples 1) xs 0 (omega arith))
  where
    nothing : (l : List ℕ) → length l < 1 → l ≡ []
    nothing [] few = refl
    nothing (x ∷ l) few = absurd (let never : ⊥ = omega (arith, few) in never)

number-one : (x : ℕ) → record_number (x ∷ []) ≡ x
number-one x = omega arith

one-more-sample : (xs : List ℕ) (x : ℕ) → recorded (Samples 1) (xs ++ x ∷ []) ≡ recorded (Samples 1) xs ++ x ∷ []
one-more-sample xs x =
    let last : length (cut_record (Samples 1) xs) + 1 ≡ 1 = ap (λ l. length l + 1) (one-cut xs) in
    whole-recorded (Samples 1) xs x (omega arith) last
    ∙ ap (λ n. recorded (Samples 1) xs ++ n ∷ [])
    (ap (λ l. record_number (l ++ x ∷ [])) (one-cut xs) ∙ number-one x)

pub octets-recorded : (form : Form) → form ≡ Samples 1 → (xs ys : List ℕ) →
    recorded form (xs ++ ys) ≡ recorded form xs ++ ys
octets-recorded form is xs ys = rw is (go xs ys)
  where
    go : (xs ys : List ℕ) → recorded (Samples 1) (xs ++ ys) ≡ recorded (Samples 1) xs ++ ys
    go xs [] = ap (recorded (Samples 1)) (append-nil xs) ∙ sym (append-nil (recorded (Samples 1) xs))
    go xs (y ∷ ys) =
        ap (recorded (Samples 1)) (sym (append_assoc xs (y ∷ []) ys))
        ∙ (go (xs ++ y ∷ []) ys
        ∙ (ap (λ ss. ss ++ ys) (one-more-sample xs y)
        ∙ append_assoc (recorded (Samples 1) xs) (y ∷ []) ys))

pub octets-cut : (form : Form) → form ≡ Samples 1 → (xs : List ℕ) → cut_record form xs ≡ []
octets-cut form is xs = rw is (one-cut xs)
