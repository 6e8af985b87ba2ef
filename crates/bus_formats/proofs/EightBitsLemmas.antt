-- Eight marks in one number, and the octets with their bits.
use Rattle.std.proofs.Common.{◌≡◌, ℕ, zero, suc, ◌+◌, ◌-◌, ◌*◌, ◌/◌, ◌%◌, ◌<◌, ◌==◌, ◌⊎◌, inl, inr, Bool, true}
use Rattle.std.proofs.Common.{◌&&◌, cond, nat_lt, List, [], ◌∷◌, length, map, bit_and, refl, sym, ap, ◌∙◌, arith}
use Rattle.std.proofs.lemmas.Bool.{and_parts, and_from, eqb-true}
use Rattle.std.proofs.lemmas.Bool.Decides.{nat_tests}
use Rattle.std.proofs.lemmas.List.{length-map}
use Rattle.std.proofs.lemmas.List.Elements.{All-head, All-tail, All-cons}
use Rattle.std.proofs.lemmas.Nat.{xor_of_8, xor_block}
use Rattle.std.proofs.lemmas.Simd.{map-map}
use Rattle.std.specs.Int.{w64, from_le_bytes}
use Rattle.std.specs.Int.RustNames.{bit_xor}
use Rattle.std.specs.List.{All, list_all}
use Rattle.bus_bits.specs.Octet.{bits_of}
use Rattle.bus_formats.specs.Internal.Marks.{HasMarks}
use Rattle.bus_bits.specs.Text.{is_bit}
use Rattle.bus_formats.specs.Capture.{is_pair, mark_pair}
use Rattle.std.specs.Prelude.{zip}
use Rattle.bus_bits.proofs.CaseLemmas.{same}
use Rattle.bus_bits.proofs.WordLemmas.{word, word-eight}
use Rattle.bus_bits.proofs.OctetLemmas.{bits-number}
use Rattle.bus_bits.proofs.ProductLemmas.{copies, gathered, gathered-is, upto, upto-all, word-and}

-- an operation on bits works on each octet
word-xor : (c : ℕ) (bs : List ℕ) → c < 256 → All (λ b. b < 256) bs
    → bit_xor (word bs) (copies c (length bs)) ≡ word (map (λ b. bit_xor b c) bs)
unfolding word copies
word-xor c [] octet small = refl
word-xor c (b ∷ bs) octet small =
    xor_block 8 (word bs) (copies c (length bs)) b c (All-head (λ n. n < 256) b bs small) octet
    ∙ ap (λ n. n * 256 + bit_xor b c) (word-xor c bs octet (All-tail (λ n. n < 256) b bs small))

-- ---- marks

-- the bits of `high` in which an octet is not `0`
abbrev pub other : ℕ → ℕ → ℕ
other high b = bit_and (bit_xor b 48) high

-- whether a test tells the marks
agrees : ℕ → (ℕ → Bool) → ℕ → Bool
agrees high is_mark b = cond (is_mark b) (other high b == 0) (nat_lt 0 (other high b))

agrees-marks : (high : ℕ) (is_mark : ℕ → Bool) → upto (agrees high is_mark) 256 ≡ true → HasMarks high is_mark
unfolding agrees
agrees-marks high is_mark all x small =
    let agreed = upto-all (agrees high is_mark) 256 all x small in
    elim (same (is_mark x)) [
      | inl mark ↦ (λ marked. eqb-true (other high x) 0 (rw mark at agreed), λ none. mark)
      | inr no-mark ↦ let some : nat_lt 0 (other high x) ≡ true = rw no-mark at agreed in
          (λ marked. absurd (cc), λ none. absurd (cc))
    ]

all-bits : upto (agrees 254 is_bit) 256 ≡ true
unfolding upto agrees
all-bits = refl

all-pairs : upto (agrees 252 is_pair) 256 ≡ true
unfolding upto agrees
all-pairs = refl

-- `0` and `1` share all bits but the lowest
pub bit-marks : HasMarks 254 is_bit
bit-marks = agrees-marks 254 is_bit all-bits

-- and `0` to `3` all but the two lowest
pub pair-marks : HasMarks 252 is_pair
pair-marks = agrees-marks 252 is_pair all-pairs

mark_cases : (b : ℕ) → is_bit b ≡ true → (b ≡ 48) ⊎ (b ≡ 49)
mark_cases b mark = grind (arith, nat_tests)

pair_cases : (b : ℕ) → is_pair b ≡ true → (b ≡ 48) ⊎ ((b ≡ 49) ⊎ ((b ≡ 50) ⊎ (b ≡ 51)))
pair_cases b mark = grind (arith, nat_tests)

mark_bit : (b : ℕ) → is_bit b ≡ true → bit_xor b 48 ≡ cond (b == 49) 1 0
mark_bit b mark = elim (mark_cases b mark) [
  | inl is ↦ rw is refl
  | inr is ↦ rw is refl
]

-- the bit of the first line, and that of the second
abbrev pub first_bit : ℕ → Bool
first_bit b = (b - 48) % 2 == 1

abbrev pub second_bit : ℕ → Bool
second_bit b = (b - 48) / 2 == 1

mark_first : (b : ℕ) → is_pair b ≡ true → bit_and (bit_xor b 48) 1 ≡ cond (first_bit b) 1 0
mark_first b mark = elim (pair_cases b mark) [
  | inl is ↦ rw is refl
  | inr (inl is) ↦ rw is refl
  | inr (inr (inl is)) ↦ rw is refl
  | inr (inr (inr is)) ↦ rw is refl
]

mark_second : (b : ℕ) → is_pair b ≡ true → bit_and (bit_xor b 48) 2 ≡ cond (second_bit b) 1 0 * 2
mark_second b mark = elim (pair_cases b mark) [
  | inl is ↦ rw is refl
  | inr (inl is) ↦ rw is refl
  | inr (inr (inl is)) ↦ rw is refl
  | inr (inr (inr is)) ↦ rw is refl
]

-- octets without the bits of `0`
marks : List ℕ → List ℕ
marks bs = map (λ b. bit_xor b 48) bs

marks-lt : (bs : List ℕ) → All (λ b. b < 256) bs → All (λ b. b < 256) (marks bs)
unfolding marks
marks-lt [] small = λ k d inside. absurd (omega arith)
marks-lt (b ∷ bs) small =
    All-cons (λ n. n < 256) (bit_xor b 48) (map (λ b. bit_xor b 48) bs)
    (xor_of_8 b 48 (All-head (λ n. n < 256) b bs small) (omega arith))
    (marks-lt bs (All-tail (λ n. n < 256) b bs small))

-- a word of what is other in each octet is 0 exactly where all are marks
pub all_marks : (high : ℕ) (is_mark : ℕ → Bool) → HasMarks high is_mark → (bs : List ℕ) → All (λ b. b < 256) bs
    → word (map (other high) bs) ≡ 0 → list_all is_mark bs ≡ true
unfolding word
all_marks high is_mark telling [] small none = refl
all_marks high is_mark telling (b ∷ bs) small none =
    and_from (is_mark b) (list_all is_mark bs) ((telling b (All-head (λ n. n < 256) b bs small)).1 (omega arith))
    (all_marks high is_mark telling bs (All-tail (λ n. n < 256) b bs small) (omega arith))

pub marks_all : (high : ℕ) (is_mark : ℕ → Bool) → HasMarks high is_mark → (bs : List ℕ) → All (λ b. b < 256) bs
    → list_all is_mark bs ≡ true → word (map (other high) bs) ≡ 0
unfolding word
marks_all high is_mark telling [] small all = refl
marks_all high is_mark telling (b ∷ bs) small all =
    let both = and_parts (is_mark b) (list_all is_mark bs) all in
    omega (
      arith,
      marks_all high is_mark telling bs (All-tail (λ n. n < 256) b bs small) both.1,
      (telling b (All-head (λ n. n < 256) b bs small)).0 both.0,
    )

marks_bits : (bs : List ℕ) → list_all is_bit bs ≡ true → marks bs ≡ map (λ b. cond b 1 0) (map (λ y. y == 49) bs)
unfolding marks
marks_bits [] all = refl
marks_bits (b ∷ bs) all =
    let both = and_parts (is_bit b) (list_all is_bit bs) all in
    rw (mark_bit b both.0, marks_bits bs both.1) refl

-- the lowest bits of marks of two lines are the first line's
first_bits : (bs : List ℕ) → list_all is_pair bs ≡ true →
    word (map (λ b. bit_and b 1) (marks bs)) ≡ word (map (λ b. cond b 1 0) (map first_bit bs))
unfolding marks word
first_bits [] all = refl
first_bits (b ∷ bs) all =
    let both = and_parts (is_pair b) (list_all is_pair bs) all in
    omega (arith, mark_first b both.0, first_bits bs both.1)

-- and the next the second line's
second_bits : (bs : List ℕ) → list_all is_pair bs ≡ true
    → word (map (λ b. bit_and b 2) (marks bs)) ≡ word (map (λ b. cond b 1 0) (map second_bit bs)) * 2
unfolding marks word
second_bits [] all = refl
second_bits (b ∷ bs) all =
    let both = and_parts (is_pair b) (list_all is_pair bs) all in
    omega (arith, mark_second b both.0, second_bits bs both.1)

-- ---- eight octets

-- n is read from these eight octets, the first the lowest
pub record IsWord (bs : List ℕ) (n : ℕ) : Type 0 where
  pub long : length bs ≡ 8
  pub small : All (λ b. b < 256) bs
  pub value : n ≡ from_le_bytes w64 bs

xored : (bs : List ℕ) (n : ℕ) → IsWord bs n → bit_xor n 3472328296227680304 ≡ word (marks bs)
unfolding copies marks
xored bs n read =
    ap (λ m. bit_xor m 3472328296227680304) (read.value ∙ word-eight bs read.long)
    ∙ ap (λ k. bit_xor (word bs) (copies 48 k)) (sym read.long) ∙ word-xor 48 bs (omega arith) read.small

-- an operation by the same octet eight times
anded : (c : ℕ) (bs : List ℕ) (n : ℕ) → IsWord bs n → c < 256
    → bit_and (bit_xor n 3472328296227680304) (72340172838076673 * c) ≡ word (map (λ b. bit_and b c) (marks bs))
unfolding copies marks
anded c bs n read small =
    let copied : 72340172838076673 * c ≡ copies c 8 = omega arith in
    ap (λ m. bit_and m (72340172838076673 * c)) (xored bs n read)
    ∙ ap (bit_and (word (marks bs))) copied
    ∙ ap (λ k. bit_and (word (marks bs)) (copies c k)) (sym (length-map bs (λ b. bit_xor b 48) ∙ read.long))
    ∙ word-and c (marks bs) small (marks-lt bs read.small)

pub others : (high : ℕ) (bs : List ℕ) (n : ℕ) → IsWord bs n → high < 256
    → bit_and (bit_xor n 3472328296227680304) (72340172838076673 * high) ≡ word (map (other high) bs)
unfolding marks
others high bs n read small =
    anded high bs n read small ∙ ap word (map-map (λ b. bit_and b high) (λ b. bit_xor b 48) bs)

-- the product has the bits of one line
gathered-line : (bit : ℕ → Bool) (bs : List ℕ) (n : ℕ) → length bs ≡ 8 → n ≡ word (map (λ b. cond b 1 0) (map bit bs))
    → bits_of 8 (gathered n) ≡ map bit bs
gathered-line bit bs n long is =
    let eight : length (map bit bs) ≡ 8 = length-map bs bit ∙ long in
    ap (λ k. bits_of 8 (gathered k)) is ∙ ap (bits_of 8) (gathered-is (map bit bs) eight)
    ∙ bits-number (map bit bs) 8 eight

-- and those of marks
pub gathered-bits : (bs : List ℕ) (n : ℕ) → IsWord bs n → list_all is_bit bs ≡ true
    → bits_of 8 (gathered (bit_xor n 3472328296227680304)) ≡ map (λ y. y == 49) bs
gathered-bits bs n read all =
    gathered-line (λ y. y == 49) bs (bit_xor n 3472328296227680304) read.long
    (xored bs n read ∙ ap word (marks_bits bs all))

zip-map : (bs : List ℕ) → zip (map first_bit bs) (map second_bit bs) ≡ map mark_pair bs
zip-map [] = refl
zip-map (b ∷ bs) = rw (zip-map bs) refl

-- and two products those of marks of two lines
pub gathered-pairs : (bs : List ℕ) (n : ℕ) → IsWord bs n → list_all is_pair bs ≡ true
    → zip (bits_of 8 (gathered (bit_and (bit_xor n 3472328296227680304) 72340172838076673)))
    (bits_of 8 (gathered (bit_and (bit_xor n 3472328296227680304) 144680345676153346 / 2)))
    ≡ map mark_pair bs
gathered-pairs bs n read all =
    let x = bit_xor n 3472328296227680304 in
    let firsts : bit_and x 72340172838076673 ≡ word (map (λ b. cond b 1 0) (map first_bit bs)) =
    anded 1 bs n read (omega arith) ∙ first_bits bs all in
    let seconds : bit_and x 144680345676153346 ≡ word (map (λ b. cond b 1 0) (map second_bit bs)) * 2 =
    anded 2 bs n read (omega arith) ∙ second_bits bs all in
    let halved : bit_and x 144680345676153346 / 2 ≡ word (map (λ b. cond b 1 0) (map second_bit bs)) =
    omega (arith, seconds) in
    ap (λ (z : List Bool). zip z (bits_of 8 (gathered (bit_and x 144680345676153346 / 2))))
    (gathered-line first_bit bs (bit_and x 72340172838076673) read.long firsts)
    ∙ ap (zip (map first_bit bs)) (gathered-line second_bit bs (bit_and x 144680345676153346 / 2) read.long halved)
    ∙ zip-map bs
