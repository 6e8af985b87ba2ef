-- Settled places, and counts over places.
use Rattle.std.proofs.Common.{◌≡◌, ℕ, zero, suc, ◌+◌, ◌-◌, ◌≤◌, ◌<◌, Bool, true, false, not, ◌&&◌, cond, subst}
use Rattle.std.proofs.Common.{if◌then◌else◌, List, [], ◌∷◌, ◌++◌, length, refl, sym, ap, ◌∙◌, inl, inr, arith, nat_le}
use Rattle.std.proofs.Common.{nat_lt, ◌*◌, ◌%◌, ◌==◌}
use Rattle.std.specs.List.{count_by, filter, Contains, AllPairs}
use Rattle.std.proofs.lemmas.List.{length_push}
use Rattle.std.proofs.lemmas.List.Sums.{sum_by-append, length-filter, count_by-le-length}
use Rattle.std.proofs.lemmas.Bool.{cases_lt, and_parts, and_from, and_left, not-true, not_from_false}
use Rattle.std.proofs.lemmas.Bool.{false_from_ne_true, leb-true, le-leb, ltb-true, lt-ltb, le-ltb, both_ways, eqb-true}
use Rattle.std.proofs.lemmas.Bool.{eq-eqb}
use Rattle.bus_line.specs.Spelling.{ones}
use Rattle.bus_line.specs.Due.{stands_at, is_abort, Mark, NoMark, FlagAt, AbortAt, last_mark, places}
use Rattle.bus_line.specs.Ledger.{IsInserted, IsSettled, is_inserted, belongs, is_settled, assembled, rank_under}
use Rattle.bus_line.specs.Ledger.{is_stored, stored, Belongs, AreSettled, IsStored}
use Rattle.bus_line.proofs.MarkLemmas.{stands-true, stands-is, abort-true, abort-is, stands_at-append, is_abort-append}
use Rattle.bus_line.proofs.MarkLemmas.{last_mark-append, last_mark-flag, last_mark-is}
use Rattle.bus_line.specs.Mark.{IsAbort}
use Rattle.std.proofs.lemmas.List.Elements.{Contains-get_or, Contains-push_cases, Contains-append_left}
use Rattle.std.proofs.lemmas.List.Elements.{Contains-append_right, All-contains, All-filter, filter-append}
use Rattle.std.proofs.lemmas.List.Elements.{filter_passes}
use Rattle.std.proofs.lemmas.List.Kept.{AllPairs-filter}
use Rattle.std.proofs.lemmas.List.Quantifiers.{all_pairs_push}
use Rattle.bus_line.proofs.ReportLemmas.{same-rising}

abbrev pub one_if : Bool → ℕ
one_if t = cond t 1 0

-- counts over places
pub count-more : (p : ℕ → Bool) (n : ℕ) → count_by p (places (suc n)) ≡ count_by p (places n) + one_if (p n)
count-more p n = sum_by-append (λ x. one_if (p x)) (places n) (n ∷ []) ∙ omega arith

pub count-same : (p q : ℕ → Bool) (n : ℕ) → ((i : ℕ) → i < n → p i ≡ q i) →
    count_by p (places n) ≡ count_by q (places n)
count-same p q zero same = refl
count-same p q (suc n) same =
    let last : n < suc n = omega arith in
    let before = count-same p q n (λ i last. same i (omega arith)) in
    count-more p n ∙ (rw (before, same n last) refl ∙ sym (count-more q n))

-- from place m on none passes
pub count-up : (f : ℕ → Bool) (m n : ℕ) → m ≤ n → ((i : ℕ) → m ≤ i → i < n → f i ≡ false) →
    count_by f (places n) ≡ count_by f (places m)
count-up f m zero within none = let start : 0 ≡ m = omega arith in ap (λ k. count_by f (places k)) start
count-up f m (suc n) within none = elim (cases_lt n m) [
  | inl all ↦ let end : suc n ≡ m = omega arith in ap (λ k. count_by f (places k)) end
  | inr more ↦
      let before = count-up f m n more (λ i from below. none i from (omega arith)) in
      omega (arith, count-more f n, before, ap one_if (none n more (omega arith)))
]

length-places : (n : ℕ) → length (places n) ≡ n
length-places zero = refl
length-places (suc n) = omega (arith, length_push (places n) n, length-places n)

-- a list that goes on
pub and-same : (p q r : Bool) → (p ≡ true → q ≡ r) → (p && q) ≡ (p && r)
and-same true q r same = same refl
and-same false q r same = refl

pub is_inserted-append : (b c : List Bool) (i : ℕ) → i < length b → is_inserted (b ++ c) i ≡ is_inserted b i
is_inserted-append b c i inside =
    and-same (nat_le 5 i) _ _
    (λ far. stands_at-append b c (i - 5) (ones 5 ++ false ∷ []) (omega (arith, leb-true 5 i far)))

pub is_settled-append : (b c : List Bool) (i : ℕ) → i + 8 < length b → length b ≤ length (b ++ c) →
    is_settled (b ++ c) i ≡ is_settled b i
is_settled-append b c i later longer =
    let in-list = lt-ltb (i + 8) (length b) later in
    let in-longer = lt-ltb (i + 8) (length (b ++ c)) (omega arith) in
    let mark = last_mark-append b c (suc i) (omega arith) in
    let abort = is_abort-append b c (suc i) (omega arith) in
    let inserted = is_inserted-append b c i (omega arith) in
    rw (in-list, in-longer, mark, abort, inserted) refl

pub is_settled-late : (b : List Bool) (i : ℕ) → length b ≤ i + 8 → is_settled b i ≡ false
is_settled-late b i late = and_left _ _ (le-ltb (i + 8) (length b) late)

-- a test of places that a longer list keeps, and that is false within eight of the end: one bit more adds one at most
pub one-place : (p q : ℕ → Bool) (n : ℕ) → ((i : ℕ) → i + 8 < n → p i ≡ q i) → ((i : ℕ) → suc n ≤ i + 8 → p i ≡ false) →
    ((i : ℕ) → n ≤ i + 8 → q i ≡ false) → count_by p (places (suc n)) ≡ count_by q (places n) + one_if (p (n - 8))
one-place p q n same late before =
    let old = count-up q (n - 8) n (omega arith) (λ i from below. before i (omega arith)) in
    let others = count-same p q (n - 8) (λ i below. same i (omega arith)) in
    elim (cases_lt n 8) [
      | inl few ↦
          let new = count-up p (n - 8) (suc n) (omega arith) (λ i from below. late i (omega arith)) in
          omega (arith, new, others, old, ap one_if (late (n - 8) (omega arith)))
      | inr many ↦
          let new = count-up p (suc (n - 8)) (suc n) (omega arith) (λ i from below. late i (omega arith)) in
          omega (arith, new, count-more p (n - 8), others, old)
    ]

pub assembled-more : (b : List Bool) (bit : Bool) → assembled (b ++ bit ∷ [])
    ≡ assembled b + (if is_settled (b ++ bit ∷ []) (length b - 8) then 1 else 0)
assembled-more b bit =
    let next : length (b ++ bit ∷ []) ≡ suc (length b) = omega (arith, length_push b bit) in
    ap (λ n. count_by (is_settled (b ++ bit ∷ [])) (places n)) next
    ∙ one-place (is_settled (b ++ bit ∷ [])) (is_settled b) (length b)
    (λ i later. is_settled-append b (bit ∷ []) i later (omega arith))
    (λ i late. is_settled-late (b ++ bit ∷ []) i (omega arith))
    (λ i late. is_settled-late b i late)

rank-append : (b c : List Bool) (mark : Mark) (i : ℕ) → i + 8 < length b → length b ≤ length (b ++ c) →
    rank_under (b ++ c) mark i ≡ rank_under b mark i
rank-append b c NoMark i later longer = refl
rank-append b c (AbortAt a) i later longer = refl
rank-append b c (FlagAt p) i later longer =
    count-same _ _ (suc i) (λ j below. ap (λ x. nat_le (p + 8) j && x) (is_settled-append b c j (omega arith) longer))

pub is_stored-append : (longest : ℕ) (b c : List Bool) (i : ℕ) → i + 8 < length b → length b ≤ length (b ++ c) →
    is_stored longest (b ++ c) i ≡ is_stored longest b i
is_stored-append longest b c i later longer =
    let settled = is_settled-append b c i later longer in
    let mark = last_mark-append b c (suc i) (omega arith) in
    let rank = rank-append b c (last_mark b (suc i)) i later longer in
    let same : rank_under (b ++ c) (last_mark (b ++ c) (suc i)) i ≡ rank_under b (last_mark b (suc i)) i =
    ap (λ x. rank_under (b ++ c) x i) mark ∙ rank in
    rw (settled, same) refl

pub stored-more : (longest : ℕ) (b : List Bool) (bit : Bool) →
    stored longest (b ++ bit ∷ []) ≡ stored longest b
    + (if is_stored longest (b ++ bit ∷ []) (length b - 8) then 1 else 0)
stored-more longest b bit =
    let next : length (b ++ bit ∷ []) ≡ suc (length b) = omega (arith, length_push b bit) in
    ap (λ n. count_by (is_stored longest (b ++ bit ∷ [])) (places n)) next
    ∙ one-place (is_stored longest (b ++ bit ∷ [])) (is_stored longest b) (length b)
    (λ i later. is_stored-append longest b (bit ∷ []) i later (omega arith))
    (λ i late. and_left _ _ (is_settled-late (b ++ bit ∷ []) i (omega arith)))
    (λ i late. and_left _ _ (is_settled-late b i late))

pub assembled-within : (b : List Bool) → assembled b ≤ length b
assembled-within b = omega (arith, count_by-le-length (is_settled b) (places (length b)), length-places (length b))

-- the test and the fact
belongs-true : (mark : Mark) (i : ℕ) → belongs mark i ≡ true → (p : ℕ) × (mark ≡ FlagAt p) × (p + 8 ≤ i)
belongs-true NoMark i is = absurd (cc)
belongs-true (AbortAt a) i is = absurd (cc)
belongs-true (FlagAt p) i is = (p, refl, leb-true (p + 8) i is)

pub inserted-true : (b : List Bool) (i : ℕ) → is_inserted b i ≡ true → IsInserted b i
inserted-true b i is =
    let parts = and_parts (nat_le 5 i) (stands_at b (i - 5) (ones 5 ++ false ∷ [])) is in
    (i - 5, omega (arith, leb-true 5 i parts.0), stands-true b (i - 5) (ones 5 ++ false ∷ []) parts.1)

pub inserted-is : (b : List Bool) (i : ℕ) → IsInserted b i → is_inserted b i ≡ true
inserted-is b i is =
    let place : is.0 ≡ i - 5 = omega (arith, is.1) in
    and_from _ _ (le-leb 5 i (omega (arith, is.1)))
    (stands-is b (i - 5) (ones 5 ++ false ∷ []) (rw place at is.2))

pub settled-true : (b : List Bool) (i : ℕ) → is_settled b i ≡ true → IsSettled b i
settled-true b i is =
    let parts = and_parts (nat_lt (i + 8) (length b)) _ is in
    let more = and_parts (belongs (last_mark b (suc i)) i) _ parts.1 in
    let none = and_parts (not (is_abort b (suc i))) (not (is_inserted b i)) more.1 in
    let mark = belongs-true (last_mark b (suc i)) i more.0 in
    let last = last_mark-flag b (suc i) mark.0 mark.1 in
    let next : i + 1 ≡ suc i = omega arith in
    record {
      flag = mark.0;
      belongs =
          record {
            flag = last.flag;
            behind = mark.2;
            greatest = λ q is-mark below.
                elim (cases_lt mark.0 q) [ inl past ↦ omega (arith, last.greatest q past is-mark) | inr is ↦ is ];
          };
      later = ltb-true (i + 8) (length b) parts.0;
      no_abort = λ found. both_ways (is_abort b (suc i)) (not-true (is_abort b (suc i)) none.0)
          (abort-is b (suc i) (rw next at found));
      no_inserted = λ found. both_ways (is_inserted b i) (not-true (is_inserted b i) none.1) (inserted-is b i found);
    }

belongs-last : (b : List Bool) (i p : ℕ) → Belongs b i p → last_mark b (suc i) ≡ FlagAt p
belongs-last b i p one = last_mark-is b (suc i) p (record {
  flag = one.flag;
  below = omega (arith, one.behind);
  greatest = λ q below mark.
      elim (cases_lt i q) [ inl past ↦ omega arith | inr is ↦ omega (arith, one.greatest q mark is) ];
})

pub settled-is : (b : List Bool) (i : ℕ) → IsSettled b i → is_settled b i ≡ true
settled-is b i settled =
    let mark = belongs-last b i settled.flag settled.belongs in
    let next : suc i ≡ i + 1 = omega arith in
    and_from _ _ (lt-ltb (i + 8) (length b) settled.later)
    (and_from _ _ (rw mark (le-leb (settled.flag + 8) i settled.belongs.behind))
    (and_from _ _
    (not_from_false _ (false_from_ne_true _
    (λ is. settled.no_abort (subst (IsAbort b) next (abort-true b (suc i) is)))))
    (not_from_false _ (false_from_ne_true _ (λ is. settled.no_inserted (inserted-true b i is))))))

pub settled-stays : (b c : List Bool) (i : ℕ) → length b ≤ length (b ++ c) → IsSettled b i → IsSettled (b ++ c) i
settled-stays b c i longer is =
    settled-true (b ++ c) i (is_settled-append b c i is.later longer ∙ settled-is b i is)

-- ---- which places fill an octet that is stored

-- the places below a number, and those of them that pass a test
place-below : (n i : ℕ) → Contains (places n) i → i < n
place-below zero i has = absurd (omega (arith, has.1))
place-below (suc n) i has = elim (Contains-push_cases (places n) n i has) [
  | inl front ↦ omega (arith, place-below n i front)
  | inr last ↦ omega (arith, last)
]

places-rise : (n : ℕ) → AllPairs (λ i j. i < j) (places n)
places-rise zero = λ i j d l m. absurd (omega arith)
places-rise (suc n) =
    all_pairs_push (λ i j. i < j) (places n) n (places-rise n)
    (λ k d l. place-below n _ (Contains-get_or (places n) k d l))

filter-has : (p : ℕ → Bool) (n i : ℕ) → i < n → p i ≡ true → Contains (filter p (places n)) i
filter-has p zero i inside is = absurd (omega arith)
filter-has p (suc n) i inside is =
    rw (filter-append p (places n) (n ∷ [])) (elim (cases_lt i n) [
      | inl below ↦ Contains-append_left (filter p (places n)) (filter p (n ∷ [])) i (filter-has p n i below is)
      | inr past ↦ Contains-append_right (filter p (places n)) (filter p (n ∷ [])) i (last-has (omega arith))
    ])
  where
    last-has : n ≡ i → Contains (filter p (n ∷ [])) i
    last-has last = let is-last : p n ≡ true = ap p last ∙ is in rw is-last (0, omega arith, last)

filter-from : (p : ℕ → Bool) (n i : ℕ) → Contains (filter p (places n)) i → (i < n) × (p i ≡ true)
filter-from p n i has =
    let below = All-filter p (λ j. j < n) (places n) (λ k d l. place-below n _ (Contains-get_or (places n) k d l)) in (
      All-contains (λ j. j < n) (filter p (places n)) i below has,
      All-contains (λ j. p j ≡ true) (filter p (places n)) i (filter_passes p (places n)) has,
    )

-- a place has one flag, which is the last mark up to it
one-flag : (b : List Bool) (i p q : ℕ) → Belongs b i p → Belongs b i q → p ≡ q
one-flag b i p q one other =
    let first = one.greatest q (inl other.flag) (omega (arith, other.behind)) in
    let second = other.greatest p (inl one.flag) (omega (arith, one.behind)) in
    omega (arith, first, second)

belongs-before : (b : List Bool) (i j p : ℕ) → Belongs b i p → p + 8 ≤ j → j ≤ i → Belongs b j p
belongs-before b i j p one from within =
    record { flag = one.flag; behind = from; greatest = λ q mark below. one.greatest q mark (omega arith) }

-- its settled places
abbrev pub of_flag : List Bool → ℕ → ℕ → Bool
of_flag b p j = nat_le (p + 8) j && is_settled b j

abbrev settled_so_far : List Bool → ℕ → ℕ → List ℕ
settled_so_far b p i = filter (of_flag b p) (places (suc i))

are-settled : (b : List Bool) (p i : ℕ) → Belongs b i p → AreSettled b p i (settled_so_far b p i)
are-settled b p i one = record {
  all = λ j. (
    λ is.
        let behind = le-leb (p + 8) j (omega (arith, is.0.belongs.behind, is.1)) in
        filter-has (of_flag b p) (suc i) j (omega (arith, is.2)) (and_from _ _ behind (settled-is b j is.0)),
    λ is.
        let found = filter-from (of_flag b p) (suc i) j is in
        let parts = and_parts (nat_le (p + 8) j) (is_settled b j) found.1 in
        let settled = settled-true b j parts.1 in
        let within : j ≤ i = omega (arith, found.0) in
        let here = belongs-before b i j p one (leb-true (p + 8) j parts.0) within in
        (settled, one-flag b j settled.flag p settled.belongs here, within),
  );
  rising = AllPairs-filter (λ j k. j < k) (of_flag b p) (places (suc i)) (places-rise (suc i));
}

rank-is :
    (b : List Bool) (p i : ℕ)
    → Belongs b i p → length (settled_so_far b p i) ≡ rank_under b (last_mark b (suc i)) i
rank-is b p i one =
    length-filter (of_flag b p) (places (suc i)) ∙ sym (ap (λ mark. rank_under b mark i) (belongs-last b i p one))

-- the test and the fact
pub stored-true : (longest : ℕ) (b : List Bool) (i : ℕ) → is_stored longest b i ≡ true → IsStored longest b i
stored-true longest b i is =
    let rank = rank_under b (last_mark b (suc i)) i in
    let parts = and_parts (is_settled b i) _ is in
    let more = and_parts (rank % 8 == 0) (nat_le rank (8 * (longest + 2))) parts.1 in
    let settled = settled-true b i parts.0 in
    let same = rank-is b settled.flag i settled.belongs in
    record {
      settled = settled;
      so_far = settled_so_far b settled.flag i;
      exact = are-settled b settled.flag i settled.belongs;
      whole = ap (λ n. n % 8) same ∙ eqb-true _ 0 more.0;
      fits = omega (arith, same, leb-true rank (8 * (longest + 2)) more.1);
    }

pub stored-is : (longest : ℕ) (b : List Bool) (i : ℕ) → IsStored longest b i → is_stored longest b i ≡ true
stored-is longest b i is =
    let p = is.settled.flag in
    let computed = are-settled b p i is.settled.belongs in
    let same =
    same-rising (λ j. j) is.so_far (settled_so_far b p i) is.exact.rising computed.rising
    (λ j has. (computed.all j).0 ((is.exact.all j).1 has)) (λ j has. (is.exact.all j).0 ((computed.all j).1 has)) in
    let same-rank : rank_under b (last_mark b (suc i)) i ≡ length is.so_far =
    sym (ap length same ∙ rank-is b p i is.settled.belongs) in
    let whole = eq-eqb _ 0 (ap (λ n. n % 8) same-rank ∙ is.whole) in
    let fits = le-leb _ (8 * (longest + 2)) (omega (arith, same-rank, is.fits)) in
    and_from _ _ (settled-is b i is.settled) (and_from _ _ whole fits)
