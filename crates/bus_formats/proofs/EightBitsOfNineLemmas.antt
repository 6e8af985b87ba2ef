-- Eight marks in nine text octets, of which one is skipped.
use Rattle.std.proofs.Common.{◌≡◌, ◌≢◌, ◌↔◌, ℕ, zero, suc, ◌+◌, ◌-◌, ◌*◌, ◌/◌, ◌%◌, ◌^◌, ◌<◌, ◌≤◌, inl, inr, Bool}
use Rattle.std.proofs.Common.{true, false, cond, List, [], ◌∷◌, ◌++◌, length, map, filter, take, drop, get_or}
use Rattle.std.proofs.Common.{take_while, None, bit_and, bit_or, bit_xor, refl, sym, ap, ◌∙◌, subst, arith}
use Rattle.std.proofs.Common.{append_assoc, length-append}
use Rattle.std.proofs.Math.Seq.{take-add}
use Rattle.std.proofs.Math.Bool.{or-true}
use Rattle.std.proofs.lemmas.Bool.{and_parts, and_from, cases_lt}
use Rattle.std.proofs.lemmas.List.{append-nil, length-map, length-take, length-drop, take-append-drop, drop_more}
use Rattle.std.proofs.lemmas.List.{drop-drop, take-take, get_or_past, drop-take}
use Rattle.std.proofs.lemmas.List.Elements.{All-head, All-tail, All-take, All-drop, All-append, All-get_or}
use Rattle.std.proofs.lemmas.Nat.{and_le_r, and_mask, or_comm, pow-add, pow_pos, shr_high, mod_low, one_shl, or_shifted}
use Rattle.std.proofs.lemmas.Nat.Bits.{bit_at-zero, bit_at_cat_low, bit_at_cat_high, bit_at-trailing_zeros}
use Rattle.std.proofs.lemmas.Nat.Bits.{and_high_mask, same_from_bits_below}
use Rattle.std.specs.Int.{w64, from_le_bytes, bit_at, trailing_zeros}
use Rattle.std.specs.List.{All, list_all}
use Rattle.bus_formats.specs.Internal.Marks.{HasMarks}
use Rattle.bus_formats.specs.Capture.{EightBy, fault_by}
use Rattle.bus_bits.specs.Text.{is_space, marks_by}
use Rattle.bus_bits.proofs.CaseLemmas.{same}
use Rattle.bus_formats.proofs.FrontLemmas.{IsFront}
use Rattle.bus_bits.proofs.WordLemmas.{word, word-eight}
use Rattle.bus_formats.proofs.EightBitsLemmas.{other, all_marks, marks_all}
use Rattle.bus_formats.proofs.TextBitsLemmas.{passes, fails, is_read, values-more, marks-whole}

-- ---- octets of two words

power-eight : (n : ℕ) → 2 ^ (8 * suc n) ≡ 2 ^ (8 * n) * 256
power-eight n = let more : 8 * suc n ≡ 8 * n + 8 = omega arith in rw more (pow-add 2 (8 * n) 8)

pub word-lt : (bs : List ℕ) → All (λ b. b < 256) bs → word bs < 2 ^ (8 * length bs)
unfolding word
word-lt [] small = omega arith
word-lt (b ∷ bs) small =
    let first = All-head (λ n. n < 256) b bs small in
    let others = word-lt bs (All-tail (λ n. n < 256) b bs small) in
    omega (arith, power-eight (length bs))

times-three : (a b c : ℕ) → a * (b * c) ≡ a * b * c
times-three a b c = grind arith

pub word-append : (xs ys : List ℕ) → word (xs ++ ys) ≡ word ys * 2 ^ (8 * length xs) + word xs
unfolding word
word-append [] ys = omega arith
word-append (x ∷ xs) ys =
    let power : word ys * 2 ^ (8 * suc (length xs)) ≡ word ys * 2 ^ (8 * length xs) * 256 =
    ap (λ (n : ℕ). word ys * n) (power-eight (length xs)) ∙ times-three (word ys) (2 ^ (8 * length xs)) 256 in
    omega (arith, power, word-append xs ys)

-- a word in two at a place
word-split : (k : ℕ) (xs : List ℕ) → k ≤ length xs → word xs ≡ word (drop k xs) * 2 ^ (8 * k) + word (take k xs)
word-split k xs within =
    let size : length (take k xs) ≡ k = omega (arith, length-take k xs, within) in
    ap word (sym (take-append-drop k xs)) ∙ word-append (take k xs) (drop k xs)
    ∙ rw size refl

word-front-lt : (k : ℕ) (xs : List ℕ) → k ≤ length xs → All (λ b. b < 256) xs → word (take k xs) < 2 ^ (8 * k)
word-front-lt k xs within small =
    let size : length (take k xs) ≡ k = omega (arith, length-take k xs, within) in
    rw size at (word-lt (take k xs) (All-take (λ b. b < 256) k xs small))

-- the octets of one before a place, and those of the other from there on
pub word-joined : (k : ℕ) (xs ys : List ℕ) → k ≤ 8 → length xs ≡ 8 → length ys ≡ 8 → All (λ b. b < 256) xs →
    All (λ b. b < 256) ys
    → bit_or (bit_and (word xs) (2 ^ (8 * k) - 1)) (bit_and (word ys) (2 ^ 64 - 2 ^ (8 * k)))
    ≡ word (take k xs ++ drop k ys)
word-joined k xs ys few long-x long-y small-x small-y =
    let within-x : k ≤ length xs = omega (arith, few, long-x) in
    let within-y : k ≤ length ys = omega (arith, few, long-y) in
    let front = word-front-lt k xs within-x small-x in
    let low : bit_and (word xs) (2 ^ (8 * k) - 1) ≡ word (take k xs) =
    and_mask (word xs) (8 * k) ∙ ap (λ (n : ℕ). n % 2 ^ (8 * k)) (word-split k xs within-x)
    ∙ mod_low (word (drop k xs)) (8 * k) (word (take k xs)) front in
    let fits : word ys < 2 ^ 64 = rw long-y at (word-lt ys small-y) in
    let high : bit_and (word ys) (2 ^ 64 - 2 ^ (8 * k)) ≡ word (drop k ys) * 2 ^ (8 * k) =
    and_high_mask 64 (8 * k) (omega (arith, few)) (word ys) fits
    ∙ ap (λ (n : ℕ). n / 2 ^ (8 * k) * 2 ^ (8 * k)) (word-split k ys within-y)
    ∙ ap (λ (n : ℕ). n * 2 ^ (8 * k))
    (shr_high (word (drop k ys)) (8 * k) (word (take k ys)) (word-front-lt k ys within-y small-y)) in
    let size : length (take k xs) ≡ k = omega (arith, length-take k xs, within-x) in
    rw (low, high)
    (or_comm (word (take k xs)) (word (drop k ys) * 2 ^ (8 * k))
    ∙ or_shifted (word (drop k ys)) (8 * k) (word (take k xs)) front
    ∙ ap (λ (n : ℕ). word (drop k ys) * 2 ^ (8 * n) + word (take k xs)) (sym size)
    ∙ sym (word-append (take k xs) (drop k ys)))

pub joined-long : (k : ℕ) (xs ys : List ℕ) → k < 8 → length xs ≡ 8 → length ys ≡ 8 → length (take k xs ++ drop k ys) ≡ 8
joined-long k xs ys few long-x long-y =
    omega (arith, length-append (take k xs) (drop k ys), length-take k xs, length-drop k ys, few, long-x, long-y)

small-all : (xs : List ℕ) → All (λ b. b < 256) xs → (i : ℕ) → get_or xs i 0 < 256
small-all xs small i = elim (cases_lt i (length xs)) [
  | inl inside ↦ All-get_or (λ b. b < 256) xs i 0 inside small
  | inr past ↦ omega (arith, get_or_past xs i 0 past)
]

pub joined-small : (k : ℕ) (xs ys : List ℕ) → All (λ b. b < 256) xs → All (λ b. b < 256) ys → (i : ℕ) →
    get_or (take k xs ++ drop k ys) i 0 < 256
joined-small k xs ys small-x small-y =
    small-all (take k xs ++ drop k ys)
    (All-append (λ b. b < 256) (take k xs) (drop k ys) (All-take (λ b. b < 256) k xs small-x)
    (All-drop (λ b. b < 256) k ys small-y))

-- and so the masks join them
pub masks-join : (k n m : ℕ) (xs ys : List ℕ) → k < 8 → length xs ≡ 8 → length ys ≡ 8 → All (λ b. b < 256) xs →
    All (λ b. b < 256) ys
    → n ≡ from_le_bytes w64 xs → m ≡ from_le_bytes w64 ys
    → bit_or (bit_and n (1 * 2 ^ (8 * k) % 18446744073709551616 - 1))
    (bit_and m (18446744073709551615 - (1 * 2 ^ (8 * k) % 18446744073709551616 - 1)))
    ≡ from_le_bytes w64 (take k xs ++ drop k ys)
masks-join k n m xs ys few long-x long-y small-x small-y is-x is-y =
    let power : 1 * 2 ^ (8 * k) % 18446744073709551616 ≡ 2 ^ (8 * k) = one_shl (8 * k) 64 (omega (arith, few)) in
    let low : 1 * 2 ^ (8 * k) % 18446744073709551616 - 1 ≡ 2 ^ (8 * k) - 1 = ap (λ (i : ℕ). i - 1) power in
    let high : 18446744073709551615 - (1 * 2 ^ (8 * k) % 18446744073709551616 - 1) ≡ 2 ^ 64 - 2 ^ (8 * k) =
    omega (arith, power, pow_pos (8 * k)) in
    let number-x : n ≡ word xs = is-x ∙ word-eight xs long-x in
    let number-y : m ≡ word ys = is-y ∙ word-eight ys long-y in
    rw (high, low, number-x, number-y)
    (word-joined k xs ys (omega (arith, few)) long-x long-y small-x small-y
    ∙ sym (word-eight (take k xs ++ drop k ys) (joined-long k xs ys few long-x long-y)))

-- ---- the first octet that is no mark

module _ (high : ℕ) (is_mark : ℕ → Bool) (marks : HasMarks high is_mark) (few : high < 256) where
  -- it stands where the lowest bit is that no mark has
  first-other : (bs : List ℕ) (k t : ℕ) → 8 * k ≤ t → t < 8 * k + 8 → All (λ b. b < 256) bs
      → bit_at (word (map (other high) bs)) t ≡ 1 → ((i : ℕ) → i < t → bit_at (word (map (other high) bs)) i ≡ 0)
      → (list_all is_mark (take k bs) ≡ true) × (is_mark (get_or bs k 0) ≡ false)
  unfolding word
  first-other [] k t from below small one none = absurd (omega (arith, one, bit_at-zero t))
  first-other (b ∷ bs) zero t from below small one none = (
    refl,
    (elim (same (is_mark b)) [
      | inl mark ↦ absurd (let low = bit_at_cat_low (word (map (other high) bs)) 8 (other high b) t below in
          let unlike = ap (λ (n : ℕ). bit_at n t) ((marks b (All-head (λ n. n < 256) b bs small)).0 mark) in
          omega (arith, one, low, unlike, bit_at-zero t))
      | inr no-mark ↦ no-mark
    ]),
  )
  first-other (b ∷ bs) (suc k) t from below small one none =
      let small-b = All-head (λ n. n < 256) b bs small in
      let out : other high b < 256 = omega (arith, and_le_r (bit_xor b 48) high, few) in
      let up : (i : ℕ) → bit_at (word (map (other high) (b ∷ bs))) (i + 8) ≡ bit_at (word (map (other high) bs)) i =
      λ i. bit_at_cat_high (word (map (other high) bs)) 8 (other high b) (i + 8) out (omega arith)
      ∙ ap (bit_at (word (map (other high) bs))) (omega arith) in
      let place : t ≡ (t - 8) + 8 = omega (arith, from) in
      let zero-here : other high b ≡ 0 =
      same_from_bits_below 8 (other high b) 0 out (omega arith)
      (λ i before. sym (bit_at_cat_low (word (map (other high) bs)) 8 (other high b) i before)
      ∙ none i (omega (arith, before, from)) ∙ sym (bit_at-zero i)) in
      let mark = (marks b small-b).1 zero-here in
      let rest =
      first-other bs k (t - 8) (omega (arith, from)) (omega (arith, below)) (All-tail (λ n. n < 256) b bs small)
      (sym (up (t - 8)) ∙ sym (ap (bit_at (word (map (other high) (b ∷ bs)))) place) ∙ one)
      (λ i before. sym (up i) ∙ none (i + 8) (omega (arith, before, from))) in
      (and_from (is_mark b) (list_all is_mark (take k bs)) mark rest.0, rest.1)

  as-word : (bs : List ℕ) (n : ℕ) → length bs ≡ 8 → n ≡ from_le_bytes w64 (map (other high) bs) →
      n ≡ word (map (other high) bs)
  as-word bs n eight is = is ∙ word-eight (map (other high) bs) (length-map bs (other high) ∙ eight)

  -- nothing is other in eight octets exactly where all are marks
  pub others-none : (bs : List ℕ) (n : ℕ) → length bs ≡ 8 → All (λ b. b < 256) bs →
      n ≡ from_le_bytes w64 (map (other high) bs)
      → (n ≡ 0) ↔ (list_all is_mark bs ≡ true)
  others-none bs n eight small is =
      let number = as-word bs n eight is in (
        λ no-bits. all_marks high is_mark marks bs small (sym number ∙ no-bits),
        λ marked. number ∙ marks_all high is_mark marks bs small marked,
      )

  -- and so in the first eight of some
  pub front-others : (xs ys : List ℕ) (n : ℕ) → IsFront xs ys → n ≡ from_le_bytes w64 (map (other high) ys)
      → (n ≡ 0) ↔ (list_all is_mark (take 8 xs) ≡ true)
  front-others xs ys n front is = rw (← front.same) (others-none ys n front.long front.small is)

  -- and where not, its lowest bit tells the place of the first that is no mark
  pub others-place : (bs : List ℕ) (n : ℕ) → length bs ≡ 8 → All (λ b. b < 256) bs →
      n ≡ from_le_bytes w64 (map (other high) bs)
      → n ≢ 0 → n < 2 ^ 64
      → (trailing_zeros w64 n / 8 < 8) × (is_mark (get_or bs (trailing_zeros w64 n / 8) 0) ≡ false)
  others-place bs n eight small is some low =
      let number = as-word bs n eight is in
      let lowest = bit_at-trailing_zeros w64 n (omega (arith, some)) low in
      let t = trailing_zeros w64 n in (
        omega (arith, lowest.0),
        (first-other bs (t / 8) t (omega arith) (omega arith) small (sym (ap (λ i. bit_at i t) number) ∙ lowest.1)
            (λ i below. sym (ap (λ m. bit_at m i) number) ∙ lowest.2 i below)).1,
      )

-- ---- what a text of nine octets gives

front_all : (p : ℕ → Bool) (xs : List ℕ) → take_while p xs ≡ xs → list_all p xs ≡ true
front_all p [] whole = refl
front_all p (x ∷ xs) whole = elim (same (p x)) [
  | inl good ↦ and_from (p x) (list_all p xs) good (front_all p xs (ap (drop 1) (sym (passes p x xs good) ∙ whole)))
  | inr bad ↦ absurd (omega (arith, ap length (sym (fails p x xs bad) ∙ whole)))
]

filter_le : (p : ℕ → Bool) (xs : List ℕ) → length (filter p xs) ≤ length xs
filter_le p [] = omega arith
filter_le p (x ∷ xs) = elim (same (p x)) [
  | inl good ↦ rw good (omega (arith, filter_le p xs))
  | inr bad ↦ rw bad (omega (arith, filter_le p xs))
]

-- a filter that leaves none out
pub all_kept : (p : ℕ → Bool) (xs : List ℕ) → list_all p xs ≡ true → filter p xs ≡ xs
all_kept p [] all = refl
all_kept p (x ∷ xs) all =
    let both = and_parts (p x) (list_all p xs) all in
    rw (both.0, all_kept p xs both.1) refl

kept_all : (p : ℕ → Bool) (xs : List ℕ) → length (filter p xs) ≡ length xs → list_all p xs ≡ true
kept_all p [] as-many = refl
kept_all p (x ∷ xs) as-many = elim (same (p x)) [
  | inl good ↦ and_from (p x) (list_all p xs) good (kept_all p xs (omega (arith, rw good at as-many)))
  | inr bad ↦ absurd (omega (arith, rw bad at as-many, filter_le p xs))
]

first_mark : {A : Type 0} (value : ℕ → A) (b : Bool) (y : ℕ) (ys : List ℕ) →
    cond b (value y ∷ []) [] ++ map value ys ≡ map value (cond b (y ∷ ys) ys)
first_mark value true y ys = refl
first_mark value false y ys = refl

module _ (is_mark : ℕ → Bool) where
  -- text gives its marks
  pub text-all : {A : Type 0} (value : ℕ → A) (xs ys : List ℕ) → fault_by is_mark xs ≡ None →
      list_all (is_read is_mark) ys ≡ true
      → (fault_by is_mark (xs ++ ys) ≡ None)
      × (map value (marks_by is_mark (xs ++ ys)) ≡ map value (marks_by is_mark xs) ++ map value (filter is_mark ys))
  text-all value xs [] clean text =
      rw (append-nil xs) (clean, sym (append-nil (map value (marks_by is_mark xs))))
  text-all {A} value xs (y ∷ ys) clean text =
      let both = and_parts (is_read is_mark y) (list_all (is_read is_mark) ys) text in
      let one = values-more is_mark value xs y clean both.0 in
      let more = text-all value (xs ++ y ∷ []) ys one.0 both.1 in
      let next : xs ++ y ∷ ys ≡ (xs ++ y ∷ []) ++ ys = sym (append_assoc xs (y ∷ []) ys) in
      rw next (
        more.0,
        more.1 ∙ ap (λ (z : List A). z ++ map value (filter is_mark ys)) one.1
            ∙ append_assoc (map value (marks_by is_mark xs)) (cond (is_mark y) (value y ∷ []) [])
            (map value (filter is_mark ys))
            ∙ ap (λ (z : List A). map value (marks_by is_mark xs) ++ z)
            (first_mark value (is_mark y) y (filter is_mark ys)),
      )

  -- so octets of which these are the marks give what these give
  pub text-given : {A : Type 0} (value : ℕ → A) (xs marks : List ℕ) (n : ℕ) (given : List A) →
      list_all (is_read is_mark) (take n xs) ≡ true
      → filter is_mark (take n xs) ≡ marks → given ≡ map value marks → (before : List ℕ) →
      fault_by is_mark before ≡ None
      → (fault_by is_mark (before ++ take n xs) ≡ None)
      × (map value (marks_by is_mark (before ++ take n xs)) ≡ map value (marks_by is_mark before) ++ given)
  text-given value xs marks n given text marked is before clean =
      rw (is, ← marked) (text-all value before (take n xs) clean text)

  -- the first octets with eight marks are text
  pub eight-text : (n : ℕ) (xs : List ℕ) → EightBy is_mark n xs
      → (list_all (is_read is_mark) (take n xs) ≡ true) × (length (filter is_mark (take n xs)) ≡ 8)
  eight-text n xs eight =
      let read = (marks-whole is_mark (take n xs) eight.1).0 in (
        front_all (is_read is_mark) (take n xs) read,
        ap (λ (z : List ℕ). length (filter is_mark z)) (sym read) ∙ eight.2,
      )

  -- and text has its marks
  pub text-eight : (n : ℕ) (xs : List ℕ) → n ≤ length xs → list_all (is_read is_mark) (take n xs) ≡ true
      → length (filter is_mark (take n xs)) ≡ 8 → EightBy is_mark n xs
  text-eight n xs enough text eight =
      let all = text-all (λ x. x) [] (take n xs) refl text in (
        enough,
        all.0,
        sym (length-map (marks_by is_mark (take n xs)) (λ x. x)) ∙ ap length all.1
            ∙ length-map (filter is_mark (take n xs)) (λ x. x) ∙ eight,
      )

  -- fewer than eight octets have not so many
  pub eight-least : (n : ℕ) (xs : List ℕ) → EightBy is_mark n xs → 8 ≤ n
  eight-least n xs eight = omega (arith, (eight-text n xs eight).1, filter_le is_mark (take n xs), length-take n xs)

  -- eight octets have eight exactly where all are marks
  pub eight-marks : (xs : List ℕ) → EightBy is_mark 8 xs → list_all is_mark (take 8 xs) ≡ true
  eight-marks xs eight =
      kept_all is_mark (take 8 xs) (omega (arith, (eight-text 8 xs eight).1, length-take 8 xs, eight.0))

  pub marks_text : (ys : List ℕ) → list_all is_mark ys ≡ true → list_all (is_read is_mark) ys ≡ true
  marks_text [] all = refl
  marks_text (y ∷ ys) all =
      let both = and_parts (is_mark y) (list_all is_mark ys) all in
      and_from (is_read is_mark y) (list_all (is_read is_mark) ys) (rw both.0 refl) (marks_text ys both.1)

  pub marks-eight : (xs : List ℕ) → 8 ≤ length xs → list_all is_mark (take 8 xs) ≡ true → EightBy is_mark 8 xs
  marks-eight xs enough all =
      text-eight 8 xs enough (marks_text (take 8 xs) all)
      (ap length (all_kept is_mark (take 8 xs) all) ∙ omega (arith, length-take 8 xs, enough))

-- nine octets are eight and one of them
nine-split : (k : ℕ) (xs : List ℕ) → k < 8 → 9 ≤ length xs
    → take 9 xs ≡ take k (take 8 xs) ++ get_or xs k 0 ∷ drop k (take 8 (drop 1 xs))
nine-split k xs place enough =
    let nine : k + (9 - k) ≡ 9 = omega (arith, place) in
    let eight : k + (8 - k) ≡ 8 = omega (arith, place) in
    let one-less : 9 - k ≡ suc (8 - k) = omega (arith, place) in
    let next : 1 + k ≡ k + 1 = omega arith in
    let back : drop k (take 8 (drop 1 xs)) ≡ take (8 - k) (drop (k + 1) xs) =
    ap (λ (n : ℕ). drop k (take n (drop 1 xs))) (sym eight) ∙ drop-take k (8 - k) (drop 1 xs)
    ∙ ap (take (8 - k)) (drop-drop k 1 xs ∙ ap (λ (n : ℕ). drop n xs) next) in
    let rest : take (9 - k) (drop k xs) ≡ get_or xs k 0 ∷ take (8 - k) (drop (k + 1) xs) =
    rw one-less (ap (take (suc (8 - k))) (drop_more xs k 0 (omega (arith, place, enough)))) in
    ap (λ (n : ℕ). take n xs) (sym nine) ∙ take-add k (9 - k) xs
    ∙ rw (rest, back, take-take k 8 xs (omega (arith, place))) refl

-- nine octets, of which one is no mark, have eight marks exactly where it is skipped and the others are marks
pub record IsNine (is_mark : ℕ → Bool) (xs marks : List ℕ) (k : ℕ) : Type 0 where
  pub place : k < 8
  pub long : 9 ≤ length xs
  pub other : is_mark (get_or xs k 0) ≡ false
  pub joined : marks ≡ take k (take 8 xs) ++ drop k (take 8 (drop 1 xs))

module _ (is_mark : ℕ → Bool) where
  -- what is skipped is no mark
  pub skipped_between : (xs ys : List ℕ) (x : ℕ) → is_mark x ≡ false →
      filter is_mark (xs ++ x ∷ ys) ≡ filter is_mark (xs ++ ys)
  skipped_between [] ys x no-mark = rw no-mark refl
  skipped_between (y ∷ xs) ys x no-mark = rw (skipped_between xs ys x no-mark) refl

  text_between : (xs ys : List ℕ) (x : ℕ) → list_all (is_read is_mark) (xs ++ x ∷ ys) ≡ true → is_read is_mark x ≡ true
  text_between [] ys x text = (and_parts (is_read is_mark x) (list_all (is_read is_mark) ys) text).0
  text_between (y ∷ xs) ys x text =
      text_between xs ys x (and_parts (is_read is_mark y) (list_all (is_read is_mark) (xs ++ x ∷ ys)) text).1

  pub between_text : (xs ys : List ℕ) (x : ℕ) → is_read is_mark x ≡ true → list_all (is_read is_mark) (xs ++ ys) ≡ true
      → list_all (is_read is_mark) (xs ++ x ∷ ys) ≡ true
  between_text [] ys x one others = and_from (is_read is_mark x) (list_all (is_read is_mark) ys) one others
  between_text (y ∷ xs) ys x one others =
      let both = and_parts (is_read is_mark y) (list_all (is_read is_mark) (xs ++ ys)) others in
      and_from (is_read is_mark y) (list_all (is_read is_mark) (xs ++ x ∷ ys)) both.0 (between_text xs ys x one both.1)

  nine-marks : (xs marks : List ℕ) (k : ℕ) → IsNine is_mark xs marks k →
      filter is_mark (take 9 xs) ≡ filter is_mark marks
  nine-marks xs marks k nine =
      ap (filter is_mark) (nine-split k xs nine.place nine.long)
      ∙ skipped_between (take k (take 8 xs)) (drop k (take 8 (drop 1 xs))) (get_or xs k 0) nine.other
      ∙ ap (filter is_mark) (sym nine.joined)

  pub nine-long : (xs marks : List ℕ) (k : ℕ) → IsNine is_mark xs marks k → length marks ≡ 8
  nine-long xs marks k nine =
      ap length nine.joined
      ∙ omega (
        arith,
        length-append (take k (take 8 xs)) (drop k (take 8 (drop 1 xs))),
        length-take k (take 8 xs),
        length-take 8 xs,
        length-drop k (take 8 (drop 1 xs)),
        length-take 8 (drop 1 xs),
        length-drop 1 xs,
        nine.place,
        nine.long,
      )

  pub nine-small : (xs marks : List ℕ) (k : ℕ) → IsNine is_mark xs marks k → All (λ b. b < 256) xs →
      All (λ b. b < 256) marks
  nine-small xs marks k nine small =
      let is_octet : ℕ → Type 0 = λ b. b < 256 in
      subst (All is_octet) (sym nine.joined)
      (All-append is_octet (take k (take 8 xs)) (drop k (take 8 (drop 1 xs)))
      (All-take is_octet k (take 8 xs) (All-take is_octet 8 xs small))
      (All-drop is_octet k (take 8 (drop 1 xs)) (All-take is_octet 8 (drop 1 xs) (All-drop is_octet 1 xs small))))

  pub nine-given : (xs marks : List ℕ) (k : ℕ) → IsNine is_mark xs marks k → EightBy is_mark 9 xs
      → (list_all is_mark marks ≡ true) × (is_space (get_or xs k 0) ≡ true)
  nine-given xs marks k nine eight =
      let text = eight-text is_mark 9 xs eight in
      let skipped = text_between (take k (take 8 xs)) (drop k (take 8 (drop 1 xs))) (get_or xs k 0)
      (ap (list_all (is_read is_mark)) (sym (nine-split k xs nine.place nine.long)) ∙ text.0) in (
        kept_all is_mark marks
            (ap length (sym (nine-marks xs marks k nine)) ∙ text.1 ∙ sym (nine-long xs marks k nine)),
        rw nine.other at skipped,
      )

  pub nine-text : (xs marks : List ℕ) (k : ℕ) → IsNine is_mark xs marks k → list_all is_mark marks ≡ true →
      is_space (get_or xs k 0) ≡ true
      → (list_all (is_read is_mark) (take 9 xs) ≡ true) × (filter is_mark (take 9 xs) ≡ marks)
  nine-text xs marks k nine marked space = (
    ap (list_all (is_read is_mark)) (nine-split k xs nine.place nine.long)
        ∙ between_text (take k (take 8 xs)) (drop k (take 8 (drop 1 xs))) (get_or xs k 0)
        (rw space (or-true (is_mark (get_or xs k 0))))
        (ap (list_all (is_read is_mark)) (sym nine.joined) ∙ marks_text is_mark marks marked),
    nine-marks xs marks k nine ∙ all_kept is_mark marks marked,
  )
