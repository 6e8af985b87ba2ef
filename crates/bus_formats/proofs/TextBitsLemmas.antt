-- Text captures, one octet more and any cut.
use Rattle.std.proofs.Common.{◌≡◌, ℕ, ◌-◌, ◌/◌, ◌%◌, ◌<◌, ◌==◌, ◌||◌, ◌⊎◌, inl, inr, Bool, true, false, cond, nat_lt}
use Rattle.std.proofs.Common.{◌≢◌, length-append, List, [], ◌∷◌, ◌++◌, length, map, filter, take_while}
use Rattle.std.proofs.Common.{Some, None, if◌then◌else◌, refl, sym, ap, ◌∙◌, arith}
use Rattle.std.proofs.lemmas.List.{append-nil, map-append}
use Rattle.std.proofs.lemmas.List.Elements.{filter-append}
use Rattle.std.proofs.lemmas.List.Sums.{take_while-cons}
use Rattle.std.proofs.Math.Bool.{or-true}
use Rattle.std.proofs.lemmas.Bool.Decides.{nat_tests}
use Rattle.bus_bits.proofs.CaseLemmas.{lt_true, le_false, same}
use Rattle.bus_formats.specs.Capture.{CaptureOf, bad_mark, is_pair, fault_by}
use Rattle.bus_bits.specs.Text.{is_bit, is_space, front_by, marks_by}
use Rattle.bus_formats.specs.Capture.{mark_pair, is_arrival, mark_arrival, GrowsTo}

pub passes : (p : ℕ → Bool) (x : ℕ) (xs : List ℕ) → p x ≡ true → take_while p (x ∷ xs) ≡ x ∷ take_while p xs
passes p x xs is = take_while-cons p x xs ∙ rw is refl

pub fails : (p : ℕ → Bool) (x : ℕ) (xs : List ℕ) → p x ≡ false → take_while p (x ∷ xs) ≡ []
fails p x xs is = take_while-cons p x xs ∙ rw is refl

-- the front of a list either is the whole, or is that of each longer list
pub front_cases : (p : ℕ → Bool) (xs : List ℕ)
    → ((take_while p xs ≡ xs) × ((ys : List ℕ) → take_while p (xs ++ ys) ≡ xs ++ take_while p ys))
    ⊎ ((length (take_while p xs) < length xs) × ((ys : List ℕ) → take_while p (xs ++ ys) ≡ take_while p xs))
front_cases p [] = inl (refl, λ ys. refl)
front_cases p (x ∷ xs) =
    elim (same (p x)) [
      | inl good ↦ elim (front_cases p xs) [
        | inl rest ↦ inl (
          passes p x xs good ∙ ap (λ (z : List ℕ). x ∷ z) rest.0,
          λ ys. passes p x (xs ++ ys) good ∙ ap (λ (z : List ℕ). x ∷ z) (rest.1 ys),
        )
        | inr rest ↦ inr (
          rw (passes p x xs good) (omega (arith, rest.0)),
          λ ys. passes p x (xs ++ ys) good ∙ ap (λ (z : List ℕ). x ∷ z) (rest.1 ys) ∙ sym (passes p x xs good),
        )
      ]
      | inr bad ↦ inr (
        rw (fails p x xs bad) (omega arith),
        λ ys. fails p x (xs ++ ys) bad ∙ sym (fails p x xs bad),
      )
    ]

-- ---- text with any marks

module _ (is_mark : ℕ → Bool) where
  abbrev pub is_read : ℕ → Bool
  is_read x = is_mark x || is_space x

  pub space_read : (x : ℕ) → is_space x ≡ true → is_read x ≡ true
  space_read x space = rw space (or-true (is_mark x))

  -- octets with no fault are all read, and so are those before each further one
  pub marks-whole : (xs : List ℕ) → fault_by is_mark xs ≡ None
      → (front_by is_mark xs ≡ xs) × ((ys : List ℕ) → front_by is_mark (xs ++ ys) ≡ xs ++ front_by is_mark ys)
  marks-whole xs clean = elim (front_cases is_read xs) [
    | inl whole ↦ whole
    | inr cut ↦ let front = front_by is_mark xs in
        let short : nat_lt (length front) (length xs) ≡ true = lt_true (length front) (length xs) cut.0 in
        let faulty : fault_by is_mark xs ≡ Some (bad_mark (length front)) = rw short refl in
        absurd (cc)
  ]

  front_one : (x : ℕ) → is_read x ≡ true → front_by is_mark (x ∷ []) ≡ x ∷ []
  front_one x read = passes is_read x [] read

  front_none : (x : ℕ) → is_read x ≡ false → front_by is_mark (x ∷ []) ≡ []
  front_none x unread = fails is_read x [] unread

  module _ {A : Type 0} (value : ℕ → A) where
    abbrev pub values : List ℕ → List A
    values xs = map value (marks_by is_mark xs)

    mapped : (b : Bool) (x : ℕ) → map value (cond b (x ∷ []) []) ≡ cond b (value x ∷ []) []
    mapped true x = refl
    mapped false x = refl

    -- what a next octet gives that is a mark or a space
    pub values-more : (xs : List ℕ) (x : ℕ) → fault_by is_mark xs ≡ None → is_read x ≡ true
        → (fault_by is_mark (xs ++ x ∷ []) ≡ None)
        × (values (xs ++ x ∷ []) ≡ values xs ++ cond (is_mark x) (value x ∷ []) [])
    values-more xs x clean read =
        let whole = marks-whole xs clean in
        let all-read : front_by is_mark (xs ++ x ∷ []) ≡ xs ++ x ∷ [] =
        whole.1 (x ∷ []) ∙ ap (λ (z : List ℕ). xs ++ z) (front_one x read) in (
          rw (all-read, le_false (length (xs ++ x ∷ [])) (length (xs ++ x ∷ [])) (omega arith)) refl,
          ap (λ (z : List ℕ). map value (filter is_mark z)) all-read
              ∙ ap (map value) (filter-append is_mark xs (x ∷ []))
              ∙ map-append value (filter is_mark xs) (filter is_mark (x ∷ []))
              ∙ ap (λ (z : List A). z ++ map value (filter is_mark (x ∷ [])))
              (ap (λ (z : List ℕ). map value (filter is_mark z)) (sym whole.0))
              ∙ ap (λ (z : List A). values xs ++ z) (mapped (is_mark x) x),
        )

    -- an octet that is neither is the fault
    pub values-stop : (xs : List ℕ) (x : ℕ) → fault_by is_mark xs ≡ None → is_read x ≡ false
        → (fault_by is_mark (xs ++ x ∷ []) ≡ Some (bad_mark (length xs))) × (values (xs ++ x ∷ []) ≡ values xs)
    values-stop xs x clean unread =
        let whole = marks-whole xs clean in
        let stays : front_by is_mark (xs ++ x ∷ []) ≡ xs =
        whole.1 (x ∷ []) ∙ ap (λ (z : List ℕ). xs ++ z) (front_none x unread) ∙ append-nil xs in
        let shorter : nat_lt (length xs) (length (xs ++ x ∷ [])) ≡ true =
        lt_true (length xs) (length (xs ++ x ∷ [])) (omega (arith, length-append xs (x ∷ []))) in (
          rw (stays, shorter) refl,
          ap (λ (z : List ℕ). map value (filter is_mark z)) (stays ∙ sym whole.0),
        )

    abbrev pub capture_of : List ℕ → CaptureOf A
    capture_of xs = record { bits = values xs; fault = fault_by is_mark xs }

    -- however a text is cut, it gives the same
    pub values-grow : (xs ys : List ℕ) → GrowsTo (capture_of xs) (capture_of (xs ++ ys))
    values-grow xs ys = elim (front_cases is_read xs) [
      | inl whole ↦ let grown : front_by is_mark (xs ++ ys) ≡ front_by is_mark xs ++ front_by is_mark ys =
          whole.1 ys ∙ ap (λ (z : List ℕ). z ++ front_by is_mark ys) (sym whole.0) in
          let clean : fault_by is_mark xs ≡ None =
          rw (whole.0, le_false (length xs) (length xs) (omega arith)) refl in (
            values ys,
            ap (λ (z : List ℕ). map value (filter is_mark z)) grown
                ∙ ap (map value) (filter-append is_mark (front_by is_mark xs) (front_by is_mark ys))
                ∙ map-append value (filter is_mark (front_by is_mark xs)) (filter is_mark (front_by is_mark ys)),
            λ g faulty. absurd (cc),
          )
      | inr cut ↦ let stays : front_by is_mark (xs ++ ys) ≡ front_by is_mark xs = cut.1 ys in
          let short : nat_lt (length (front_by is_mark xs)) (length xs) ≡ true =
          lt_true (length (front_by is_mark xs)) (length xs) cut.0 in
          let short-still : nat_lt (length (front_by is_mark xs)) (length (xs ++ ys)) ≡ true =
          lt_true (length (front_by is_mark xs)) (length (xs ++ ys)) (omega (arith, length-append xs ys)) in
          let same-bits : values (xs ++ ys) ≡ values xs = ap (λ (z : List ℕ). map value (filter is_mark z)) stays in
          let same-fault : fault_by is_mark (xs ++ ys) ≡ fault_by is_mark xs = rw (stays, short-still, short) refl in (
            [],
            same-bits ∙ sym (append-nil (values xs)),
            λ g faulty. rw (same-bits, same-fault) refl,
          )
    ]

-- ---- one line

pub mark_is_bit : (x : ℕ) → x / 2 ≡ 24 → is_bit x ≡ true
mark_is_bit x half = grind (arith, nat_tests)

pub mark_by_half : (x : ℕ) → x / 2 ≢ 24 → is_bit x ≡ false
mark_by_half x half = grind (arith, nat_tests)

-- ---- two lines

pub mark_is_pair : (x : ℕ) → x / 4 ≡ 12 → is_pair x ≡ true
mark_is_pair x quarter = grind (arith, nat_tests)

pub mark_by_quarter : (x : ℕ) → x / 4 ≢ 12 → is_pair x ≡ false
mark_by_quarter x quarter = grind (arith, nat_tests)

pub both_ones : (i j k l : ℕ) → i ≡ j → k ≡ l → ◌≡◌ {A = Bool × Bool} (i == 1, k == 1) (j == 1, l == 1)
both_ones i j k l first second = rw (first, second) refl

pub mark_pair_is : (x : ℕ) → x / 4 ≡ 12 → mark_pair x ≡ (x % 2 == 1, x / 2 % 2 == 1)
mark_pair_is x quarter =
    both_ones ((x - 48) % 2) (x % 2) ((x - 48) / 2) (x / 2 % 2) (omega (arith, quarter)) (omega (arith, quarter))

-- ---- two lines with a clock each

-- the mark of an octet, if it is one
pub marked-some : (x : ℕ) (a : Bool × Bool) → Some a ≡ (if is_arrival x then Some (mark_arrival x) else None) →
    (is_arrival x ≡ true) × (mark_arrival x ≡ a)
marked-some x a is = elim (same (is_arrival x)) [
  | inl mark ↦ let here : Some a ≡ Some (mark_arrival x) = is ∙ rw mark refl in (mark, cc)
  | inr none ↦ let here : Some a ≡ None = is ∙ rw none refl in absurd (cc)
]

pub marked-none : (x : ℕ) → None ≡ (if is_arrival x then Some (mark_arrival x) else None) → is_arrival x ≡ false
marked-none x is = elim (same (is_arrival x)) [
  | inl mark ↦ let here : None ≡ Some (mark_arrival x) = is ∙ rw mark refl in absurd (cc)
  | inr none ↦ none
]
